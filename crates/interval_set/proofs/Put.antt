-- A run put into a list of runs: what lies before its neighbours, what is left of them at both sides of it, and what lies after.
use Rattle.std.proofs.Common.{◌≡◌, inl, inr, ⊎_elim, ℕ, ◌-◌, ℤ, ◌≤ℤ◌, List, [], ◌∷◌, ◌++◌, length, take, drop, slice_get, Option, Some, option_to_list, All, sym, subst, ap, arith, ◌∙◌}
use Rattle.std.specs.Int.{int_max, int_min}
use Rattle.std.proofs.lemmas.Int.{ints, clamps, by_lt_z}
use Rattle.itpg_base.specs.Spans.{Span, IsSpan, Within}
use Rattle.itpg_base.specs.Words.{Word}
use Rattle.itpg_base.specs.Graphs.{Valued, RunsHave, AreRunsOfValues}
use Rattle.interval_set.specs.Runs.{AreRunsOf, HasPut}
use Rattle.interval_set.specs.Places.{IsApartBefore, IsNear, AreNeighbours}
use Rattle.interval_set.specs.Borders.{MeetsBefore, MeetsAfter}
use Rattle.interval_set.specs.Splices.{replaced}
use Rattle.itpg_base.specs.Lists.{Among}
use Rattle.itpg_base.proofs.Lists.{append_first, append_second, among_append, all_among}
use Rattle.interval_set.proofs.Rising.{Precedes, precedes_apart, has_from, has_by, has-append_left, has-append_right, has-append_cases, each_run_span, runs_append, runs_left, runs_right, runs_between, among_option, runs_option}
use Rattle.interval_set.proofs.Border.{Begins, Ends, begins, ends}
use Rattle.interval_set.proofs.Parts.{three_parts}

-- the run that is put reaches from where the one span begins to where the other ends
pub record Reaches (item own : Valued) (begin end : Span) : Type 0 where
  pub value : own.value ≡ item.value
  pub from : own.span.from ≡ int_min item.span.from begin.from
  pub to : own.span.to ≡ int_max item.span.to end.to

pub reaches_by : (item own : Valued) (begin end s : Span) → own ≡ record { span = s; value = item.value } → s.from ≡ int_min item.span.from begin.from → s.to ≡ int_max item.span.to end.to → Reaches item own begin end
reaches_by item own begin end s e from to = record {
  value = ap (λ (r : Valued). r.value) e;
  from = ap (λ (r : Valued). r.span.from) e ∙ from;
  to = ap (λ (r : Valued). r.span.to) e ∙ to;
}

module _ (A M B : List Valued) (item own : Valued) (left right : Option Valued) (begin end : Span) (c : AreRunsOfValues (A ++ (M ++ B))) (span : IsSpan item.span)
    (before : All (λ r. IsApartBefore r.span item.span) A) (near : All (λ m. IsNear m.span item.span) M) (after : All (λ r. IsApartBefore item.span r.span) B)
    (first : Begins M (runs_left M B (runs_right A (M ++ B) c)) item near left begin) (last : Ends M (runs_left M B (runs_right A (M ++ B) c)) item near right end)
    (reaches : Reaches item own begin end) where
  middle : AreRunsOfValues (M ++ B)
  middle = runs_right A (M ++ B) c

  of_left : (p : Valued) → Among (option_to_list left) p → left ≡ Some p
  of_left p m = among_option left p m

  of_right : (q : Valued) → Among (option_to_list right) q → right ≡ Some q
  of_right q m = among_option right q m

  -- each part is a run
  left_span : (p : Valued) → left ≡ Some p → IsSpan p.span
  left_span p e =
      let h = first.parts p e in
      let some = h.2.some in let from = h.2.from in let to = h.2.to in
      let own_span : (h.0).span.from ≤ℤ (h.0).span.to = each_run_span M h.0 (runs_left M B middle) h.1 in
      omega (arith, ints, clamps)

  right_span : (q : Valued) → right ≡ Some q → IsSpan q.span
  right_span q e =
      let l = last.parts q e in
      let some = l.2.some in let from = l.2.from in let to = l.2.to in
      let own_span : (l.0).span.from ≤ℤ (l.0).span.to = each_run_span M l.0 (runs_left M B middle) l.1 in
      omega (arith, ints, clamps)

  own_span : IsSpan own.span
  own_span = let from = reaches.from in let to = reaches.to in let item_span : item.span.from ≤ℤ item.span.to = span in omega (arith, ints, clamps)

  -- each part precedes those after it
  a_left : (a p : Valued) → Among A a → left ≡ Some p → Precedes a p
  a_left a p m e =
      let h = first.parts p e in
      let far = runs_between A (M ++ B) a h.0 c m (append_first M B h.0 h.1) in
      let from = h.2.from in let rise = far.rise in
      record { rise = omega (arith, ints); gap = λ same. let gap = far.gap (same ∙ h.2.value) in omega (arith, ints) }

  a_own : (a : Valued) → Among A a → Precedes a own
  a_own a m =
      let far = all_among (λ r. IsApartBefore r.span item.span) A before a m in
      let from = reaches.from in
      ⊎_elim (λ e. let same = ap (λ (y : Span). y.from) e in precedes_apart a own (omega (arith, ints, clamps)))
      (λ h.
      let apart = runs_between A (M ++ B) a h.0 c m (append_first M B h.0 h.1) in
      let begun = ap (λ (y : Span). y.from) h.3 in let rise = apart.rise in
      record { rise = omega (arith, ints, clamps); gap = λ same. let gap = apart.gap (same ∙ (reaches.value ∙ sym h.2)) in omega (arith, ints, clamps) })
      first.reaches

  a_right : (a q : Valued) → Among A a → right ≡ Some q → Precedes a q
  a_right a q m e =
      let l = last.parts q e in
      let far = all_among (λ r. IsApartBefore r.span item.span) A before a m in
      let from = l.2.from in let item_span : item.span.from ≤ℤ item.span.to = span in
      precedes_apart a q (omega (arith, ints, clamps))

  left_own : (p : Valued) → left ≡ Some p → Precedes p own
  left_own p e =
      let h = first.parts p e in
      let to = h.2.to in let from = reaches.from in let begun = ap (λ (y : Span). y.from) h.4 in
      record { rise = omega (arith, ints, clamps); gap = λ same. absurd (h.3 (sym h.2.value ∙ (same ∙ reaches.value))) }

  left_right : (p q : Valued) → left ≡ Some p → right ≡ Some q → Precedes p q
  left_right p q e f =
      let h = first.parts p e in let l = last.parts q f in
      let to = h.2.to in let from = l.2.from in let item_span : item.span.from ≤ℤ item.span.to = span in
      precedes_apart p q (omega (arith, ints, clamps))

  left_b : (p b : Valued) → left ≡ Some p → Among B b → Precedes p b
  left_b p b e m =
      let h = first.parts p e in
      let far = runs_between M B h.0 b middle h.1 m in
      let to = h.2.to in let rise = far.rise in
      record { rise = omega (arith, ints, clamps); gap = λ same. let gap = far.gap (sym h.2.value ∙ same) in omega (arith, ints, clamps) }

  own_right : (q : Valued) → right ≡ Some q → Precedes own q
  own_right q e =
      let l = last.parts q e in
      let from = l.2.from in let to = reaches.to in let ended = ap (λ (y : Span). y.to) l.4 in
      record { rise = omega (arith, ints, clamps); gap = λ same. absurd (l.3 (sym l.2.value ∙ (sym same ∙ reaches.value))) }

  own_b : (b : Valued) → Among B b → Precedes own b
  own_b b m =
      let far = all_among (λ r. IsApartBefore item.span r.span) B after b m in
      let to = reaches.to in
      ⊎_elim (λ e. let same = ap (λ (y : Span). y.to) e in precedes_apart own b (omega (arith, ints, clamps)))
      (λ l.
      let apart = runs_between M B l.0 b middle l.1 m in
      let ended = ap (λ (y : Span). y.to) l.3 in let rise = apart.rise in
      record { rise = omega (arith, ints, clamps); gap = λ same. let gap = apart.gap (l.2 ∙ (sym reaches.value ∙ same)) in omega (arith, ints, clamps) })
      last.reaches

  right_b : (q b : Valued) → right ≡ Some q → Among B b → Precedes q b
  right_b q b e m =
      let l = last.parts q e in
      let far = runs_between M B l.0 b middle l.1 m in
      let to = l.2.to in let rise = far.rise in
      record { rise = omega (arith, ints); gap = λ same. let gap = far.gap (sym l.2.value ∙ same) in omega (arith, ints) }

  put_coalesced : AreRunsOfValues (A ++ (option_to_list left ++ (own ∷ (option_to_list right ++ B))))
  put_coalesced =
      let after_own = runs_append (option_to_list right) B (runs_option right right_span) (runs_right M B middle) (λ q b m n. right_b q b (of_right q m) n) in
      let from_own = runs_append (own ∷ []) (option_to_list right ++ B) (own_span, tt, tt) after_own
      (λ o r m n. own_first o r m (⊎_elim (λ q. own_right r (of_right r q)) (λ b. own_b r b) (among_append (option_to_list right) B r n))) in
      let from_left = runs_append (option_to_list left) (own ∷ (option_to_list right ++ B)) (runs_option left left_span) from_own
      (λ p r m n. among_own r (λ e. subst (λ (y : Valued). Precedes p y) e (left_own p (of_left p m)))
      (λ q. left_right p r (of_left p m) (of_right r q)) (λ b. left_b p r (of_left p m) b) n) in
      runs_append A (option_to_list left ++ (own ∷ (option_to_list right ++ B))) (runs_left A (M ++ B) c) from_left
      (λ a r m n. ⊎_elim (λ p. a_left a r m (of_left r p))
      (λ rest. among_own r (λ e. subst (λ (y : Valued). Precedes a y) e (a_own a m))
      (λ q. a_right a r m (of_right r q)) (λ b. runs_between A (M ++ B) a r c m (append_second M B r b)) rest)
      (among_append (option_to_list left) (own ∷ (option_to_list right ++ B)) r n))
    where
      own_first : (o r : Valued) → Among (own ∷ []) o → Precedes own r → Precedes o r
      own_first o r (inl e) p = subst (λ (y : Valued). Precedes y r) e p
      own_first o r (inr n) p = absurd n

      among_own : {P : Type 0} (r : Valued) → (own ≡ r → P) → (Among (option_to_list right) r → P) → (Among B r → P) → Among (own ∷ (option_to_list right ++ B)) r → P
      among_own r is_own is_right is_b (inl e) = is_own e
      among_own r is_own is_right is_b (inr n) = ⊎_elim is_right is_b (among_append (option_to_list right) B r n)

  -- the value has its moments, and each old value elsewhere is kept
  put_whole : (t : ℤ) (value : Word) → HasPut (A ++ (M ++ B)) item.span item.value t value → RunsHave (A ++ (option_to_list left ++ (own ∷ (option_to_list right ++ B)))) t value
  put_whole t value (inl h) =
      let w = h.0 in let begun = w.begun in let going = w.going in let from = reaches.from in let to = reaches.to in
      let inside : Within t own.span = record { begun = omega (arith, ints, clamps); going = omega (arith, ints, clamps) } in
      has-append_right A (option_to_list left ++ (own ∷ (option_to_list right ++ B))) t value
      (has-append_right (option_to_list left) (own ∷ (option_to_list right ++ B)) t value (inl (inside, reaches.value ∙ sym h.1)))
  put_whole t value (inr h) = ⊎_elim
      (λ a. has-append_left A (option_to_list left ++ (own ∷ (option_to_list right ++ B))) t value a)
      (λ rest. has-append_right A (option_to_list left ++ (own ∷ (option_to_list right ++ B))) t value (⊎_elim in_middle
      (λ b. has-append_right (option_to_list left) (own ∷ (option_to_list right ++ B)) t value (inr (has-append_right (option_to_list right) B t value b)))
      (has-append_cases M B t value rest))) (has-append_cases A (M ++ B) t value h.0)
    where
      of_some : (o : Option Valued) (p : Valued) → o ≡ Some p → Within t p.span → p.value ≡ value → RunsHave (option_to_list o) t value
      of_some o p e w v = subst (λ (x : Option Valued). RunsHave (option_to_list x) t value) (sym e) (inl (w, v))

      joined : Within t own.span → item.value ≡ value → RunsHave (option_to_list left ++ (own ∷ (option_to_list right ++ B))) t value
      joined w v = has-append_right (option_to_list left) (own ∷ (option_to_list right ++ B)) t value (inl (w, reaches.value ∙ v))

      in_middle : RunsHave M t value → RunsHave (option_to_list left ++ (own ∷ (option_to_list right ++ B))) t value
      in_middle n =
          let m = has_by M t value n in
          let from = reaches.from in let to = reaches.to in let item_span : item.span.from ≤ℤ item.span.to = span in
          by_lt_z t item.span.from
          (λ early. ⊎_elim
          (λ same. let begun = same.1 in joined (record { begun = omega (arith, ints, clamps); going = omega (arith, ints, clamps) }) (sym same.0 ∙ m.3))
          (λ p. has-append_left (option_to_list left) (own ∷ (option_to_list right ++ B)) t value (of_some left p.0 p.1 p.2 (p.3 ∙ m.3)))
          (first.whole m.0 t m.1 m.2 early))
          (λ begun. by_lt_z item.span.to t
          (λ late. ⊎_elim
          (λ same. let going = same.1 in joined (record { begun = omega (arith, ints, clamps); going = omega (arith, ints, clamps) }) (sym same.0 ∙ m.3))
          (λ q. has-append_right (option_to_list left) (own ∷ (option_to_list right ++ B)) t value (inr (has-append_left (option_to_list right) B t value (of_some right q.0 q.1 q.2 (q.3 ∙ m.3)))))
          (last.whole m.0 t m.1 m.2 late))
          (λ going. absurd (h.1 (record { begun = begun; going = going }))))

  -- and nothing else is there
  in_near : (m : Valued) (t : ℤ) (value : Word) → Among M m → Within t m.span → m.value ≡ value → (¬ Within t item.span) → HasPut (A ++ (M ++ B)) item.span item.value t value
  in_near m t value a w v out = inr (has-append_right A (M ++ B) t value (has-append_left M B t value (has_from M m t value a w v)), out)

  from_left : (t : ℤ) (value : Word) → RunsHave (option_to_list left) t value → HasPut (A ++ (M ++ B)) item.span item.value t value
  from_left t value h =
      let p = has_by (option_to_list left) t value h in
      let m = first.parts p.0 (of_left p.0 p.1) in
      let w = p.2 in let begun = w.begun in let going = w.going in let from = m.2.from in let to = m.2.to in
      in_near m.0 t value m.1 (record { begun = omega (arith, ints); going = omega (arith, ints, clamps) }) (sym m.2.value ∙ p.3) (λ v. let late = v.begun in omega (arith, ints, clamps))

  from_right : (t : ℤ) (value : Word) → RunsHave (option_to_list right) t value → HasPut (A ++ (M ++ B)) item.span item.value t value
  from_right t value h =
      let q = has_by (option_to_list right) t value h in
      let m = last.parts q.0 (of_right q.0 q.1) in
      let w = q.2 in let begun = w.begun in let going = w.going in let from = m.2.from in let to = m.2.to in
      in_near m.0 t value m.1 (record { begun = omega (arith, ints, clamps); going = omega (arith, ints) }) (sym m.2.value ∙ q.3) (λ v. let early = v.going in omega (arith, ints, clamps))

  from_own : (t : ℤ) (value : Word) → Within t own.span → own.value ≡ value → HasPut (A ++ (M ++ B)) item.span item.value t value
  from_own t value w v =
      let begun = w.begun in let going = w.going in let from = reaches.from in let to = reaches.to in
      by_lt_z t item.span.from
      (λ early. ⊎_elim (λ e. let same = ap (λ (y : Span). y.from) e in absurd (omega (arith, ints, clamps)))
      (λ h.
      let reach = (all_among (λ m. IsNear m.span item.span) M near h.0 h.1).from in
      let from_h = ap (λ (y : Span). y.from) h.3 in
      in_near h.0 t value h.1 (record { begun = omega (arith, ints, clamps); going = omega (arith, ints) }) (h.2 ∙ (sym reaches.value ∙ v)) (λ u. let late = u.begun in omega (arith, ints)))
      first.reaches)
      (λ begun_item. by_lt_z item.span.to t
      (λ late. ⊎_elim (λ e. let same = ap (λ (y : Span). y.to) e in absurd (omega (arith, ints, clamps)))
      (λ l.
      let reach = (all_among (λ m. IsNear m.span item.span) M near l.0 l.1).to in
      let to_l = ap (λ (y : Span). y.to) l.3 in
      in_near l.0 t value l.1 (record { begun = omega (arith, ints); going = omega (arith, ints, clamps) }) (l.2 ∙ (sym reaches.value ∙ v)) (λ u. let early = u.going in omega (arith, ints)))
      last.reaches)
      (λ going_item. inl (record { begun = begun_item; going = going_item }, sym v ∙ reaches.value)))

  from_before : (t : ℤ) (value : Word) → RunsHave A t value → HasPut (A ++ (M ++ B)) item.span item.value t value
  from_before t value h =
      let a = has_by A t value h in
      let far = all_among (λ r. IsApartBefore r.span item.span) A before a.0 a.1 in
      let w = a.2 in let going = w.going in
      inr (has-append_left A (M ++ B) t value h, λ v. let begun = v.begun in omega (arith, ints))

  from_after : (t : ℤ) (value : Word) → RunsHave B t value → HasPut (A ++ (M ++ B)) item.span item.value t value
  from_after t value h =
      let b = has_by B t value h in
      let far = all_among (λ r. IsApartBefore item.span r.span) B after b.0 b.1 in
      let w = b.2 in let begun = w.begun in
      inr (has-append_right A (M ++ B) t value (has-append_right M B t value h), λ v. let going = v.going in omega (arith, ints))

  put_only : (t : ℤ) (value : Word) → RunsHave (A ++ (option_to_list left ++ (own ∷ (option_to_list right ++ B)))) t value → HasPut (A ++ (M ++ B)) item.span item.value t value
  put_only t value h = ⊎_elim (from_before t value)
      (λ rest. ⊎_elim (from_left t value)
      (λ rest. ⊎_elim (λ o. from_own t value o.0 o.1)
      (λ rest. ⊎_elim (from_right t value) (from_after t value) (has-append_cases (option_to_list right) B t value rest)) rest)
      (has-append_cases (option_to_list left) (own ∷ (option_to_list right ++ B)) t value rest))
      (has-append_cases A (option_to_list left ++ (own ∷ (option_to_list right ++ B))) t value h)

  pub put_runs : AreRunsOf (HasPut (A ++ (M ++ B)) item.span item.value) (A ++ (option_to_list left ++ (own ∷ (option_to_list right ++ B))))
  put_runs = record { whole = put_whole; only = put_only; coalesced = put_coalesced }

-- the same at the places of the neighbours
pub put_at : (xs : List Valued) (item own : Valued) (first last : ℕ) (left right : Option Valued) (begin end : Span) → AreRunsOfValues xs → IsSpan item.span → AreNeighbours xs item.span first last
    → MeetsBefore (slice_get (take (last - first) (drop first xs)) 0) item left begin
    → MeetsAfter (slice_get (take (last - first) (drop first xs)) (length (take (last - first) (drop first xs)) - 1)) item right end
    → Reaches item own begin end → AreRunsOf (HasPut xs item.span item.value) (replaced first last left (Some own) right xs)
put_at xs item own first last left right begin end c span near meets_before meets_after reaches =
    let A = take first xs in
    let M = take (last - first) (drop first xs) in
    let B = drop last xs in
    let parts = three_parts xs first last near.ordered in
    let whole = subst AreRunsOfValues (sym parts) c in
    let middle = runs_left M B (runs_right A (M ++ B) whole) in
    subst (λ (ys : List Valued). AreRunsOf (HasPut ys item.span item.value) (A ++ (option_to_list left ++ (own ∷ (option_to_list right ++ B))))) parts
    (put_runs A M B item own left right begin end whole span near.before near.near near.after (begins M middle item near.near left begin meets_before) (ends M middle item near.near right end meets_after) reaches)
