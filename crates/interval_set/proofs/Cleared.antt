-- A span cleared in a list of runs: what lies before its neighbours, what is left of them, and what lies after.
use Rattle.std.proofs.Common.{◌≡◌, inl, ⊎_elim, ℕ, ◌-◌, ℤ, ◌≤ℤ◌, List, ◌++◌, length, take, drop, slice_get, Option, Some, None, option_to_list, All, sym, subst, arith, ◌∙◌}
use Rattle.std.proofs.lemmas.Int.{ints, clamps, by_lt_z}
use Rattle.itpg_base.specs.Spans.{Span, IsSpan, Within}
use Rattle.itpg_base.specs.Words.{Word}
use Rattle.itpg_base.specs.Graphs.{Valued, RunsHave, AreRunsOfValues}
use Rattle.interval_set.specs.Runs.{AreRunsOf, HasCleared}
use Rattle.interval_set.specs.Places.{IsApartBefore, IsNear, AreNeighbours}
use Rattle.interval_set.specs.Borders.{LeavesBefore, LeavesAfter}
use Rattle.interval_set.specs.Splices.{replaced}
use Rattle.itpg_base.specs.Lists.{Among}
use Rattle.itpg_base.proofs.Lists.{append_first, append_second, among_append, all_among}
use Rattle.interval_set.proofs.Rising.{Precedes, precedes_apart, has_from, has_by, has-append_left, has-append_right, has-append_cases, each_run_span, runs_append, runs_left, runs_right, runs_between, among_option, runs_option}
use Rattle.interval_set.proofs.Border.{Before, After, left_before, left_after}
use Rattle.interval_set.proofs.Parts.{three_parts}

module _ (A M B : List Valued) (s : Span) (left right : Option Valued) (c : AreRunsOfValues (A ++ (M ++ B))) (span : IsSpan s)
    (before : All (λ r. IsApartBefore r.span s) A) (near : All (λ m. IsNear m.span s) M) (after : All (λ r. IsApartBefore s r.span) B)
    (first : Before M (runs_left M B (runs_right A (M ++ B) c)) s near left) (last : After M (runs_left M B (runs_right A (M ++ B) c)) s near right) where
  middle : AreRunsOfValues (M ++ B)
  middle = runs_right A (M ++ B) c

  -- the runs of each part of the new list
  of_left : (p : Valued) → Among (option_to_list left) p → left ≡ Some p
  of_left p m = among_option left p m

  of_right : (q : Valued) → Among (option_to_list right) q → right ≡ Some q
  of_right q m = among_option right q m

  left_span : (p : Valued) → left ≡ Some p → IsSpan p.span
  left_span p e =
      let h = first.parts p e in
      let some = h.2.some in let from = h.2.from in let to = h.2.to in
      let own : (h.0).span.from ≤ℤ (h.0).span.to = each_run_span M h.0 (runs_left M B middle) h.1 in
      omega (arith, ints, clamps)

  right_span : (q : Valued) → right ≡ Some q → IsSpan q.span
  right_span q e =
      let l = last.parts q e in
      let some = l.2.some in let from = l.2.from in let to = l.2.to in
      let own : (l.0).span.from ≤ℤ (l.0).span.to = each_run_span M l.0 (runs_left M B middle) l.1 in
      omega (arith, ints, clamps)

  a_left : (a p : Valued) → Among A a → left ≡ Some p → Precedes a p
  a_left a p m e =
      let h = first.parts p e in
      let far = runs_between A (M ++ B) a h.0 c m (append_first M B h.0 h.1) in
      let from = h.2.from in let rise = far.rise in
      record { rise = omega (arith, ints); gap = λ same. let gap = far.gap (same ∙ h.2.value) in omega (arith, ints) }

  a_right : (a q : Valued) → Among A a → right ≡ Some q → Precedes a q
  a_right a q m e =
      let l = last.parts q e in
      let far = all_among (λ r. IsApartBefore r.span s) A before a m in
      let from = l.2.from in let own : s.from ≤ℤ s.to = span in
      precedes_apart a q (omega (arith, ints, clamps))

  left_right : (p q : Valued) → left ≡ Some p → right ≡ Some q → Precedes p q
  left_right p q e f =
      let h = first.parts p e in let l = last.parts q f in
      let to = h.2.to in let from = l.2.from in let own : s.from ≤ℤ s.to = span in
      precedes_apart p q (omega (arith, ints, clamps))

  left_b : (p b : Valued) → left ≡ Some p → Among B b → Precedes p b
  left_b p b e m =
      let h = first.parts p e in
      let far = runs_between M B h.0 b middle h.1 m in
      let to = h.2.to in let rise = far.rise in
      record { rise = omega (arith, ints, clamps); gap = λ same. let gap = far.gap (sym h.2.value ∙ same) in omega (arith, ints, clamps) }

  right_b : (q b : Valued) → right ≡ Some q → Among B b → Precedes q b
  right_b q b e m =
      let l = last.parts q e in
      let far = runs_between M B l.0 b middle l.1 m in
      let to = l.2.to in let rise = far.rise in
      record { rise = omega (arith, ints); gap = λ same. let gap = far.gap (sym l.2.value ∙ same) in omega (arith, ints) }

  cleared_coalesced : AreRunsOfValues (A ++ (option_to_list left ++ (option_to_list right ++ B)))
  cleared_coalesced =
      let tail = runs_append (option_to_list right) B (runs_option right right_span) (runs_right M B middle) (λ q b m n. right_b q b (of_right q m) n) in
      let both = runs_append (option_to_list left) (option_to_list right ++ B) (runs_option left left_span) tail
      (λ p r m n. ⊎_elim (λ q. left_right p r (of_left p m) (of_right r q)) (λ b. left_b p r (of_left p m) b) (among_append (option_to_list right) B r n)) in
      runs_append A (option_to_list left ++ (option_to_list right ++ B)) (runs_left A (M ++ B) c) both
      (λ a r m n. ⊎_elim (λ p. a_left a r m (of_left r p))
      (λ rest. ⊎_elim (λ q. a_right a r m (of_right r q)) (λ b. runs_between A (M ++ B) a r c m (append_second M B r b)) (among_append (option_to_list right) B r rest))
      (among_append (option_to_list left) (option_to_list right ++ B) r n))

  -- each old value outside the span is kept
  kept : (t : ℤ) (value : Word) → HasCleared (A ++ (M ++ B)) s t value → RunsHave (A ++ (option_to_list left ++ (option_to_list right ++ B))) t value
  kept t value h = ⊎_elim
      (λ a. has-append_left A (option_to_list left ++ (option_to_list right ++ B)) t value a)
      (λ rest. has-append_right A (option_to_list left ++ (option_to_list right ++ B)) t value (⊎_elim in_middle
      (λ b. has-append_right (option_to_list left) (option_to_list right ++ B) t value (has-append_right (option_to_list right) B t value b))
      (has-append_cases M B t value rest))) (has-append_cases A (M ++ B) t value h.0)
    where
      in_middle : RunsHave M t value → RunsHave (option_to_list left ++ (option_to_list right ++ B)) t value
      in_middle n =
          let m = has_by M t value n in
          by_lt_z t s.from
          (λ early. let p = first.whole m.0 t m.1 m.2 early in
          has-append_left (option_to_list left) (option_to_list right ++ B) t value (of_some left p.0 p.1 p.2 (p.3 ∙ m.3)))
          (λ begun. by_lt_z s.to t
          (λ late. let q = last.whole m.0 t m.1 m.2 late in
          has-append_right (option_to_list left) (option_to_list right ++ B) t value (has-append_left (option_to_list right) B t value (of_some right q.0 q.1 q.2 (q.3 ∙ m.3))))
          (λ going. absurd (h.1 (record { begun = begun; going = going }))))
        where
          of_some : (o : Option Valued) (p : Valued) → o ≡ Some p → Within t p.span → p.value ≡ value → RunsHave (option_to_list o) t value
          of_some o p e w v = subst (λ (x : Option Valued). RunsHave (option_to_list x) t value) (sym e) (inl (w, v))

  -- and nothing else is there
  from_left : (t : ℤ) (value : Word) → RunsHave (option_to_list left) t value → HasCleared (A ++ (M ++ B)) s t value
  from_left t value h =
      let p = has_by (option_to_list left) t value h in
      let m = first.parts p.0 (of_left p.0 p.1) in
      let w = p.2 in let begun = w.begun in let going = w.going in let from = m.2.from in let to = m.2.to in
      let inside : Within t (m.0).span = record { begun = omega (arith, ints); going = omega (arith, ints, clamps) } in (
        has-append_right A (M ++ B) t value (has-append_left M B t value (has_from M m.0 t value m.1 inside (sym m.2.value ∙ p.3))),
        λ v. let late = v.begun in omega (arith, ints, clamps),
      )

  from_right : (t : ℤ) (value : Word) → RunsHave (option_to_list right) t value → HasCleared (A ++ (M ++ B)) s t value
  from_right t value h =
      let q = has_by (option_to_list right) t value h in
      let m = last.parts q.0 (of_right q.0 q.1) in
      let w = q.2 in let begun = w.begun in let going = w.going in let from = m.2.from in let to = m.2.to in
      let inside : Within t (m.0).span = record { begun = omega (arith, ints, clamps); going = omega (arith, ints) } in (
        has-append_right A (M ++ B) t value (has-append_left M B t value (has_from M m.0 t value m.1 inside (sym m.2.value ∙ q.3))),
        λ v. let early = v.going in omega (arith, ints, clamps),
      )

  pub from_before : (t : ℤ) (value : Word) → RunsHave A t value → HasCleared (A ++ (M ++ B)) s t value
  from_before t value h =
      let a = has_by A t value h in
      let far = all_among (λ r. IsApartBefore r.span s) A before a.0 a.1 in
      let w = a.2 in let going = w.going in
      (has-append_left A (M ++ B) t value h, λ v. let begun = v.begun in omega (arith, ints))

  pub from_after : (t : ℤ) (value : Word) → RunsHave B t value → HasCleared (A ++ (M ++ B)) s t value
  from_after t value h =
      let b = has_by B t value h in
      let far = all_among (λ r. IsApartBefore s r.span) B after b.0 b.1 in
      let w = b.2 in let begun = w.begun in
      (has-append_right A (M ++ B) t value (has-append_right M B t value h), λ v. let going = v.going in omega (arith, ints))

  pub cleared_runs : AreRunsOf (HasCleared (A ++ (M ++ B)) s) (A ++ (option_to_list left ++ (option_to_list right ++ B)))
  cleared_runs = record {
    whole = kept;
    only = λ t value h. ⊎_elim (from_before t value)
        (λ rest. ⊎_elim (from_left t value)
        (λ rest. ⊎_elim (from_right t value) (from_after t value) (has-append_cases (option_to_list right) B t value rest))
        (has-append_cases (option_to_list left) (option_to_list right ++ B) t value rest))
        (has-append_cases A (option_to_list left ++ (option_to_list right ++ B)) t value h);
    coalesced = cleared_coalesced;
  }

-- the same at the places of the neighbours
pub clear_at : (xs : List Valued) (s : Span) (first last : ℕ) (left right : Option Valued) → AreRunsOfValues xs → IsSpan s → AreNeighbours xs s first last
    → LeavesBefore (slice_get (take (last - first) (drop first xs)) 0) s left
    → LeavesAfter (slice_get (take (last - first) (drop first xs)) (length (take (last - first) (drop first xs)) - 1)) s right
    → AreRunsOf (HasCleared xs s) (replaced first last left None right xs)
clear_at xs s first last left right c span near leaves_before leaves_after =
    let A = take first xs in
    let M = take (last - first) (drop first xs) in
    let B = drop last xs in
    let parts = three_parts xs first last near.ordered in
    let whole = subst AreRunsOfValues (sym parts) c in
    let middle = runs_left M B (runs_right A (M ++ B) whole) in
    subst (λ (ys : List Valued). AreRunsOf (HasCleared ys s) (A ++ (option_to_list left ++ (option_to_list right ++ B)))) parts
    (cleared_runs A M B s left right whole span near.before near.near near.after (left_before M middle s near.near left leaves_before) (left_after M middle s near.near right leaves_after))
