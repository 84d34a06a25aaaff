-- What is left of rows of one time without others, one row after the other, and of a row one cut after the other.
use Rattle.std.proofs.Common.{◌≡◌, ◌↔◌, ◌⊎◌, inl, inr, ⊎_elim, ℕ, suc, ◌+◌, ◌<◌, ◌≤◌, ℤ, pos, ◌+ℤ◌, ◌-ℤ◌, ◌≤ℤ◌, ◌<ℤ◌, List, [], ◌∷◌, ◌++◌, length, slice_index_or, take, drop, drop-cons, append_assoc, append-nil, Bool, true, false, refl, sym, ◌∙◌, ap, subst, arith}
use Rattle.std.proofs.lemmas.Int.{ints, by_lt_z}
use Rattle.std.proofs.lemmas.List.{take_more, take_all, take-append-drop}
use Rattle.std.specs.Prelude.{int_lt, if◌then◌else◌}
use Rattle.itpg_base.specs.declared.object_number.ObjNo.{ObjNo}
use Rattle.itpg_base.specs.Spans.{Span, Within, IsSpan}
use Rattle.itpg_base.specs.Lists.{Among, Ordered}
use Rattle.itpg_base.proofs.Lists.{among_append, append_first, append_second, append_ordered, among_at, ordered_first, ordered_across}
use Rattle.relation_rows.specs.declared.times.OneRow.{OneRow}
use Rattle.relation_rows.specs.Times.{InTime, TimesHold, TimeBefore, AreTimes, IsOneTime, OnlyFirstHas, SomeHas, MeetsTime, gap, HasUncut}
use Rattle.relation_rows.proofs.Coalescing.{hold_more}
use Rattle.relation_rows.proofs.Partitions.{rest_among, rest_ordered, front_among}
use Rattle.relation_rows.proofs.Runs.{times_alike}

-- runs behind runs
pub append_times : (S T U : ℕ → ℤ → Type 0) (xs ys : List OneRow) → AreTimes S xs → AreTimes T ys → ((r s : OneRow) → Among xs r → Among ys s → TimeBefore r s) → ((o : ℕ) (t : ℤ) → U o t ↔ (S o t ⊎ T o t)) → AreTimes U (xs ++ ys)
append_times S T U xs ys a b across is = record {
  whole = λ o t h. ⊎_elim (λ k. let w = a.whole o t k in (w.0, append_first xs ys w.0 w.1, w.2)) (λ k. let w = b.whole o t k in (w.0, append_second xs ys w.0 w.1, w.2)) ((is o t).0 h);
  only = λ o t h. (is o t).1 (⊎_elim (λ k. inl (a.only o t (h.0, k, h.2))) (λ k. inr (b.only o t (h.0, k, h.2))) (among_append xs ys h.0 h.1));
  spans = λ r i. ⊎_elim (λ k. a.spans r k) (λ k. b.spans r k) (among_append xs ys r i);
  order = append_ordered TimeBefore xs ys a.order b.order across;
}

pub one_run : (r : OneRow) → IsSpan r.span → AreTimes (InTime r) (r ∷ [])
one_run r span = record {
  whole = λ o t h. (r, inl refl, h);
  only = λ o t h. ⊎_elim (λ (e : r ≡ h.0). subst (λ (v : OneRow). InTime v o t) (sym e) h.2) (λ a. absurd a) h.1;
  spans = λ s a. ⊎_elim (λ (e : r ≡ s). subst (λ (v : OneRow). IsSpan v.span) e span) (λ b. absurd b) a;
  order = (λ s a. absurd a, tt);
}

-- a row has its object at its first moment, and at its last
pub at_first : (r : OneRow) → IsSpan r.span → InTime r r.object.0 r.span.from
at_first r span = record { object = refl; moment = record { begun = omega (arith, ints); going = span } }

pub at_last : (r : OneRow) → IsSpan r.span → InTime r r.object.0 r.span.to
at_last r span = record { object = refl; moment = record { begun = span; going = omega (arith, ints) } }

-- the object from the one moment on, before the other
abbrev Part : ObjNo → ℤ → ℤ → ℕ → ℤ → Type 0
Part object from before o t = (object.0 ≡ o) × (from ≤ℤ t) × (t <ℤ before)

lt_is : (a b : ℤ) → int_lt a b ≡ true → a <ℤ b
lt_is a b e = grind (arith, ints)

le_is : (a b : ℤ) → int_lt a b ≡ false → b ≤ℤ a
le_is a b e = grind (arith, ints)

abbrev part_row : ObjNo → ℤ → ℤ → OneRow
part_row object from before = record { object = object; span = record { from = from; to = before -ℤ pos 1 } }

gap_by : (object : ObjNo) (from before : ℤ) (b : Bool) → int_lt from before ≡ b → AreTimes (Part object from before) (if b then part_row object from before ∷ [] else [])
gap_by object from before true e =
    let lt = lt_is from before e in
    times_alike (InTime (part_row object from before)) (Part object from before)
    (λ o t i. let w = i.moment in let begun = w.begun in let going = w.going in (i.object, begun, omega (arith, ints)))
    (λ o t p. record { object = p.0; moment = record { begun = p.1; going = let l = p.2 in omega (arith, ints) } })
    (part_row object from before ∷ []) (one_run (part_row object from before) (omega (arith, ints)))
gap_by object from before false e =
    let le = le_is from before e in
    record { whole = λ o t p. absurd (let a = p.1 in let b = p.2 in omega (arith, ints)); only = λ o t h. absurd h.1; spans = λ r a. absurd a; order = tt }

gap_times : (object : ObjNo) (from before : ℤ) → AreTimes (Part object from before) (gap object from before)
gap_times object from before = gap_by object from before (int_lt from before) refl

-- one more cut
some_more : (cuts : List OneRow) (k : ℕ) (d : OneRow) → k < length cuts → (t : ℤ) → SomeHas (take (k + 1) cuts) t ↔ (SomeHas (take k cuts) t ⊎ Within t (slice_index_or cuts k d).span)
some_more cuts k d lt t =
    let x : OneRow = slice_index_or cuts k d in
    let e = take_more cuts k d lt in (
      λ h. ⊎_elim
          (λ a. inl (h.0, a, h.2))
          (λ a. ⊎_elim (λ (g : slice_index_or cuts k d ≡ h.0). inr (subst (λ (v : OneRow). Within t v.span) (sym g) h.2)) (λ b. absurd b) a)
          (among_append (take k cuts) (x ∷ []) h.0 (subst (λ (v : List OneRow). Among v h.0) e h.1)),
      λ h. ⊎_elim
          (λ a. (a.0, subst (λ (v : List OneRow). Among v a.0) (sym e) (append_first (take k cuts) (x ∷ []) a.0 a.1), a.2))
          (λ a. (x, subst (λ (v : List OneRow). Among v x) (sym e) (append_second (take k cuts) (x ∷ []) x (inl refl)), a))
          h,
    )

none_read : {X : Type 0} (xs : List X) (x : X) → Among (take 0 xs) x → ⊥
none_read [] x a = a
none_read (y ∷ ys) x a = a

same_span : {a b c d : ℤ} → a ≡ b → c ≡ d → let s : Span = record { from = a; to = c } in s ≡ record { from = b; to = d }
same_span e f = cc

-- ---- what is left of one row

-- before a moment, without the cuts that were read
abbrev Left : OneRow → List OneRow → ℕ → ℤ → ℕ → ℤ → Type 0
Left row cuts i from o t = (row.object.0 ≡ o) × (row.span.from ≤ℤ t) × (t <ℤ from) × (¬ SomeHas (take i cuts) t)

-- what the row has before the moment and no cut has was added, and what it has from there on meets the cuts that are left
pub record IsLeftTo (row : OneRow) (cuts old : List OneRow) (i : ℕ) (from : ℤ) (now : List OneRow) : Type 0 where
  pub pieces : List OneRow
  pub is : now ≡ old ++ pieces
  pub times : AreTimes (Left row cuts i from) pieces
  pub apart : (r : OneRow) → Among pieces r → (r.span.to +ℤ pos 1) <ℤ from
  pub low : row.span.from ≤ℤ from
  pub high : from ≤ℤ row.span.to
  pub gone : (s : OneRow) → Among (take i cuts) s → s.span.to <ℤ from
  pub left : (s : OneRow) → Among (drop i cuts) s → from ≤ℤ s.span.to
  pub later : (s : OneRow) → Among (drop i cuts) s → (from ≡ row.span.from) ⊎ (from <ℤ s.span.from)

module _ (row : OneRow) (span : IsSpan row.span) (cuts : List OneRow) (order : IsOneTime cuts) (meets : (s : OneRow) → Among cuts s → MeetsTime row s) (old : List OneRow) where
  left_start : IsLeftTo row cuts old 0 row.span.from old
  left_start = record {
    pieces = [];
    is = sym (append-nil old);
    times = record { whole = λ o t h. absurd (let a = h.1 in let b = h.2 in omega (arith, ints)); only = λ o t h. absurd h.1; spans = λ r a. absurd a; order = tt };
    apart = λ r a. absurd a;
    low = omega (arith, ints);
    high = span;
    gone = λ s a. absurd (none_read cuts s a);
    left = λ s a. (meets s (rest_among cuts 0 s a)).ends;
    later = λ s a. inl refl;
  }

  pub items_start : (from : ℤ) → from ≡ row.span.from → IsLeftTo row cuts old 0 from old
  items_start from e = subst (λ (v : ℤ). IsLeftTo row cuts old 0 v old) (sym e) left_start

  module _ (i : ℕ) (from : ℤ) (now : List OneRow) (u : IsLeftTo row cuts old i from now) where
    -- pieces that begin at the moment or later come behind those before it
    across : (more : List OneRow) (before : ℤ) → AreTimes (Part row.object from before) more → (r s : OneRow) → Among u.pieces r → Among more s → TimeBefore r s
    across more before a r s i j =
        let own = u.times.only r.object.0 r.span.from (r, i, at_first r (u.times.spans r i)) in
        let other = a.only s.object.0 s.span.from (s, j, at_first s (a.spans s j)) in
        let first = other.1 in
        let ends = u.apart r i in
        inr (sym own.0 ∙ other.0, omega (arith, ints, first, ends))

    module _ (d : OneRow) (lt : i < length cuts) (next : List OneRow) (pushed : next ≡ now ++ gap row.object from (slice_index_or cuts i d).span.from) where
      abbrev cut : OneRow
      cut = slice_index_or cuts i d

      cut_meets : MeetsTime row cut
      cut_meets = meets (slice_index_or cuts i d) (among_at cuts i d lt)

      cut_span : IsSpan cut.span
      cut_span = order.spans (slice_index_or cuts i d) (among_at cuts i d lt)

      rest_is : drop i cuts ≡ cut ∷ drop (i + 1) cuts
      rest_is =
          let e : suc i ≡ i + 1 = omega arith in
          drop-cons cuts i d lt ∙ ap (λ (v : ℕ). slice_index_or cuts i d ∷ drop v cuts) e

      cut_left : Among (drop i cuts) cut
      cut_left = subst (λ (v : List OneRow). Among v cut) (sym rest_is) (inl refl)

      reaches : from ≤ℤ cut.span.to
      reaches = u.left cut cut_left

      begins : (from ≡ row.span.from) ⊎ (from <ℤ cut.span.from)
      begins = u.later cut cut_left

      behind : (s : OneRow) → Among (drop (i + 1) cuts) s → (cut.span.to +ℤ pos 1) <ℤ s.span.from
      behind s a =
          let before = (subst (λ (v : List OneRow). Ordered TimeBefore v) rest_is (rest_ordered TimeBefore cuts i order.order)).0 s a in
          let one = cut_meets.object in
          let other = (meets s (rest_among cuts (i + 1) s a)).object in
          ⊎_elim (λ l. absurd (omega (arith, l, one, other))) (λ k. k.1) before

      either : (t : ℤ) → SomeHas (take (i + 1) cuts) t ↔ (SomeHas (take i cuts) t ⊎ Within t cut.span)
      either t = some_more cuts i d lt t

      more : List OneRow
      more = gap row.object from cut.span.from

      more_times : AreTimes (Part row.object from cut.span.from) more
      unfolding more
      more_times = gap_times row.object from cut.span.from

      next_is : next ≡ old ++ (u.pieces ++ more)
      unfolding more
      next_is = pushed ∙ ap (λ (v : List OneRow). v ++ gap row.object from (slice_index_or cuts i d).span.from) u.is ∙ append_assoc old u.pieces (gap row.object from (slice_index_or cuts i d).span.from)

      not_gone : (t : ℤ) → from ≤ℤ t → SomeHas (take i cuts) t → ⊥
      not_gone t ge h = let l = u.gone h.0 h.1 in let g = h.2.going in omega (arith, ints, l, g, ge)

      -- before the moment the cut has nothing of the row
      not_cut : (t : ℤ) → row.span.from ≤ℤ t → t <ℤ from → Within t cut.span → ⊥
      not_cut t ge lt w = let b = w.begun in ⊎_elim (λ e. omega (arith, ints, e, ge, lt)) (λ l. omega (arith, ints, l, b, lt)) begins

      step_either : (o : ℕ) (t : ℤ) → Left row cuts (i + 1) (cut.span.to +ℤ pos 1) o t ↔ (Left row cuts i from o t ⊎ Part row.object from cut.span.from o t)
      step_either o t = (
        λ h. by_lt_z t from
            (λ lt. inl (h.0, h.1, lt, λ s. h.3 ((either t).1 (inl s))))
            (λ ge. inr (
              h.0,
              ge,
              by_lt_z t cut.span.from (λ l. l) (λ b. absurd (h.3 ((either t).1 (inr (record { begun = b; going = let l = h.2 in omega (arith, ints) }))))),
            )),
        λ h. ⊎_elim
            (λ k. (k.0, k.1, (let l = k.2 in let r = reaches in omega (arith, ints)), λ s. ⊎_elim (λ a. k.3 a) (λ w. not_cut t k.1 k.2 w) ((either t).0 s)))
            (λ g. (
              g.0,
              (let a = u.low in let b = g.1 in omega (arith, ints)),
              (let l = g.2 in let r = cut_span in omega (arith, ints)),
              λ s. ⊎_elim (λ a. not_gone t g.1 a) (λ w. let b = w.begun in let l = g.2 in omega (arith, ints, b, l)) ((either t).0 s),
            ))
            h,
      )

      left_step : cut.span.to <ℤ row.span.to → IsLeftTo row cuts old (i + 1) (cut.span.to +ℤ pos 1) next
      left_step goes = record {
        pieces = u.pieces ++ more;
        is = next_is;
        times = append_times (Left row cuts i from) (Part row.object from cut.span.from) (Left row cuts (i + 1) (cut.span.to +ℤ pos 1)) u.pieces more u.times more_times (across more cut.span.from more_times) step_either;
        apart = λ r a. ⊎_elim
            (λ b. let l = u.apart r b in let g = reaches in omega (arith, ints))
            (λ b. let l = (more_times.only r.object.0 r.span.to (r, b, at_last r (more_times.spans r b))).2 in let g = cut_span in omega (arith, ints))
            (among_append u.pieces more r a);
        low = let a = cut_meets.ends in omega (arith, ints);
        high = omega (arith, ints);
        gone = λ s a. read s a;
        left = λ s a. let l = behind s a in let g = order.spans s (rest_among cuts (i + 1) s a) in omega (arith, ints);
        later = λ s a. inr (behind s a);
      }
        where
          read : (s : OneRow) → Among (take (i + 1) cuts) s → s.span.to <ℤ (cut.span.to +ℤ pos 1)
          read s a = ⊎_elim
              (λ b. let l = u.gone s b in let g = reaches in omega (arith, ints))
              (λ b. ⊎_elim (λ (e : slice_index_or cuts i d ≡ s). subst (λ (v : OneRow). v.span.to <ℤ ((slice_index_or cuts i d).span.to +ℤ pos 1)) e (omega (arith, ints))) (λ c. absurd c) b)
              (among_append (take i cuts) (slice_index_or cuts i d ∷ []) s (subst (λ (v : List OneRow). Among v s) (take_more cuts i d lt) a))

      -- no later cut has a moment before this one ends
      no_other : (t : ℤ) → t ≤ℤ cut.span.to → SomeHas cuts t → SomeHas (take (i + 1) cuts) t
      no_other t le h =
          ⊎_elim
          (λ a. (h.0, a, h.2))
          (λ a. absurd (let l = behind h.0 a in let b = h.2.begun in omega (arith, ints)))
          (among_append (take (i + 1) cuts) (drop (i + 1) cuts) h.0 (subst (λ (v : List OneRow). Among v h.0) (sym (take-append-drop (i + 1) cuts)) h.1))

      left_last : row.span.to ≤ℤ cut.span.to → HasUncut row cuts old next
      left_last ends = (
        u.pieces ++ more,
        next_is,
        append_times (Left row cuts i from) (Part row.object from cut.span.from) (λ o t. InTime row o t × (¬ SomeHas cuts t)) u.pieces more u.times more_times (across more cut.span.from more_times)
            (λ o t. (
              λ h.
                  let w = h.0.moment in
                  let going = w.going in
                  let s = (step_either o t).0 (h.0.object, w.begun, omega (arith, ints), λ s. h.1 (s.0, front_among cuts (i + 1) s.0 s.1, s.2)) in s,
              λ h.
                  let k = (step_either o t).1 h in
                  let least = k.1 in
                  let before = k.2 in
                  let most : t ≤ℤ row.span.to = ⊎_elim (λ a. let l = a.2 in let b = u.high in omega (arith, ints)) (λ a. let l = a.2 in let b = cut_meets.begins in omega (arith, ints)) h in
                  (record { object = k.0; moment = record { begun = least; going = most } }, λ s. k.3 (no_other t (omega (arith, ints)) s)),
            )),
      )

    left_end : length cuts ≤ i → (next : List OneRow) → next ≡ now ++ (record { object = row.object; span = record { from = from; to = row.span.to } }) ∷ [] → HasUncut row cuts old next
    left_end all next pushed =
        let last : OneRow = record { object = row.object; span = record { from = from; to = row.span.to } } in
        let run = one_run last u.high in
        let read = take_all i cuts all in (
          u.pieces ++ last ∷ [],
          pushed ∙ ap (λ (v : List OneRow). v ++ last ∷ []) u.is ∙ append_assoc old u.pieces (last ∷ []),
          append_times (Left row cuts i from) (InTime last) (λ o t. InTime row o t × (¬ SomeHas cuts t)) u.pieces (last ∷ []) u.times run
              (λ r s a b.
              let own = u.times.only r.object.0 r.span.from (r, a, at_first r (u.times.spans r a)) in
              let ends = u.apart r a in
              ⊎_elim (λ (e : last ≡ s). subst (λ (v : OneRow). TimeBefore r v) e (inr (sym own.0, ends))) (λ c. absurd c) b)
              (λ o t. (
                λ h.
                    let w = h.0.moment in
                    let begun = w.begun in
                    by_lt_z t from
                    (λ lt. inl (h.0.object, begun, lt, λ s. h.1 (s.0, front_among cuts i s.0 s.1, s.2)))
                    (λ ge. inr (record { object = h.0.object; moment = record { begun = ge; going = w.going } })),
                λ h. ⊎_elim
                    (λ k. (record { object = k.0; moment = record { begun = k.1; going = let l = k.2 in let b = u.high in omega (arith, ints) } }, λ s. k.3 (subst (λ (v : List OneRow). SomeHas v t) (sym read) s)))
                    (λ k.
                    let w = k.moment in
                    let begun = w.begun in (
                      record { object = k.object; moment = record { begun = (let l = u.low in omega (arith, ints)); going = w.going } },
                      λ s. let a = subst (λ (v : List OneRow). SomeHas v t) (sym read) s in let l = u.gone a.0 a.1 in let g = a.2.going in omega (arith, ints, l, g, begun),
                    ))
                    h,
              )),
        )

    -- the same in the words of the loop, which reads the cut x
    module _ (x : OneRow) (read : x ≡ slice_index_or cuts i x) (lt : i < length cuts) (before : ℤ) (begins : before ≡ x.span.from) (next : List OneRow) (pushed : next ≡ now ++ gap row.object from before) where
      whole : next ≡ now ++ gap row.object from (slice_index_or cuts i x).span.from
      whole = pushed ∙ ap (λ (v : ℤ). now ++ gap row.object from v) (begins ∙ ap (λ (v : OneRow). v.span.from) read)

      pub item_step : (start : ℤ) → start ≡ x.span.to +ℤ pos 1 → ((row.span.to ≤ℤ x.span.to) → ⊥) → IsLeftTo row cuts old (i + 1) start next
      item_step start is goes =
          let after : x.span.to <ℤ row.span.to = by_lt_z x.span.to row.span.to (λ l. l) (λ le. absurd (goes le)) in
          subst (λ (v : ℤ). IsLeftTo row cuts old (i + 1) v next) (ap (λ (v : OneRow). v.span.to +ℤ pos 1) (sym read) ∙ sym is)
          (left_step x lt next whole (subst (λ (v : OneRow). v.span.to <ℤ row.span.to) read after))

      pub item_last : row.span.to ≤ℤ x.span.to → HasUncut row cuts old next
      item_last ends = left_last x lt next whole (subst (λ (v : OneRow). row.span.to ≤ℤ v.span.to) read ends)

    pub items_end : length cuts ≤ i → (s : Span) → s.from ≡ from → s.to ≡ row.span.to → (next : List OneRow) → next ≡ now ++ (record { object = row.object; span = s }) ∷ [] → HasUncut row cuts old next
    items_end all s e f next pushed =
        left_end all next (pushed ∙ ap (λ (v : Span). now ++ (record { object = row.object; span = v }) ∷ []) (same_span e f))

-- ---- rows of one list, one after the other

pub none_first : (first second times : List OneRow) → times ≡ [] → AreTimes (OnlyFirstHas (take 0 first) second) times
none_first first second times e = subst (λ (v : List OneRow). AreTimes (OnlyFirstHas (take 0 first) second) v) (sym e) (record {
  whole = λ o t h. absurd (none_read first h.0.0 h.0.1);
  only = λ o t h. absurd h.1;
  spans = λ r a. absurd a;
  order = tt;
})

pub first_more : (first second : List OneRow) → IsOneTime first → (k : ℕ) (d row : OneRow) → k < length first → row ≡ slice_index_or first k d
    → (cuts : List OneRow) → ((s : OneRow) → Among cuts s → Among second s) → ((s : OneRow) → Among cuts s → MeetsTime row s)
    → ((s : OneRow) → Among second s → s.object.0 ≡ row.object.0 → s.span.from ≤ℤ row.span.to → row.span.from ≤ℤ s.span.to → Among cuts s)
    → (now next : List OneRow) → HasUncut row cuts now next → AreTimes (OnlyFirstHas (take k first) second) now → AreTimes (OnlyFirstHas (take (k + 1) first) second) next
first_more first second order k d row lt read cuts there meets all now next uncut so =
    let more : take (k + 1) first ≡ take k first ++ row ∷ [] = take_more first k d lt ∙ ap (λ (v : OneRow). take k first ++ v ∷ []) (sym read) in
    let pieces = uncut.0 in
    let times = uncut.2 in
    subst (λ (v : List OneRow). AreTimes (OnlyFirstHas v second) next) (sym more)
    (subst (λ (v : List OneRow). AreTimes (OnlyFirstHas (take k first ++ row ∷ []) second) v) (sym uncut.1)
    (append_times (OnlyFirstHas (take k first) second) (λ o t. InTime row o t × (¬ SomeHas cuts t)) (OnlyFirstHas (take k first ++ row ∷ []) second) now pieces so times
    (λ r s a b. before r s a (so.spans r a) (times.only s.object.0 s.span.from (s, b, at_first s (times.spans s b))).0)
    (λ o t. (
      λ h. ⊎_elim
          (λ a. inl (a, h.1))
          (λ (a : InTime row o t). inr (a, λ s. h.1 (s.0, there s.0 s.1, record { object = (meets s.0 s.1).object ∙ a.object; moment = s.2 })))
          ((hold_more (take k first) row o t).0 h.0),
      λ h. ⊎_elim
          (λ a. ((hold_more (take k first) row o t).1 (inl a.0), a.1))
          (λ (a : InTime row o t × (¬ SomeHas cuts t)). ((hold_more (take k first) row o t).1 (inr a.0), λ s. a.1 (shared o t s a.0)))
          h,
    ))))
  where
    shared : (o : ℕ) (t : ℤ) → TimesHold second o t → InTime row o t → SomeHas cuts t
    shared o t s i =
        let j = s.2 in
        let m = j.moment in
        let w = i.moment in
        let a = m.begun in
        let b = m.going in
        let begun = w.begun in
        let going = w.going in
        (s.0, all s.0 s.1 (j.object ∙ sym i.object) (omega (arith, ints)) (omega (arith, ints)), m)

    ordered : Ordered TimeBefore (take (k + 1) first)
    ordered = ordered_first TimeBefore (take (k + 1) first) (drop (k + 1) first) (subst (λ (v : List OneRow). Ordered TimeBefore v) (sym (take-append-drop (k + 1) first)) order.order)

    before : (r s : OneRow) → Among now r → IsSpan r.span → InTime row s.object.0 s.span.from → TimeBefore r s
    before r s a span i =
        let h = (so.only r.object.0 r.span.to (r, a, at_last r span)).0 in
        let f = h.2 in
        let ends = f.moment.going in
        let begins = i.moment.begun in
        let apart : TimeBefore h.0 row = ordered_across TimeBefore (take k first) (row ∷ []) (subst (λ (v : List OneRow). Ordered TimeBefore v) (take_more first k d lt ∙ ap (λ (v : OneRow). take k first ++ v ∷ []) (sym read)) ordered) h.0 row h.1 (inl refl) in
        let one = f.object in
        let other = i.object in
        ⊎_elim (λ l. inl (omega (arith, l, one, other))) (λ l. let gone = l.1 in inr (sym one ∙ l.0 ∙ other, omega (arith, ints, gone, ends, begins))) apart

pub first_all : (first second : List OneRow) (k : ℕ) (times : List OneRow) → length first ≤ k → AreTimes (OnlyFirstHas (take k first) second) times → AreTimes (OnlyFirstHas first second) times
first_all first second k times le = subst (λ (v : List OneRow). AreTimes (OnlyFirstHas v second) times) (take_all k first le)
