-- The loop of the sweep: what is left, and what the rows are.
use Rattle.std.proofs.Common.{◌≡◌, ◌⊎◌, inl, inr, ⊎_elim, ℕ, zero, suc, ◌+◌, ◌<◌, ◌≤◌, ◌^◌, ℤ, pos, ◌+ℤ◌, ◌-ℤ◌, ◌≤ℤ◌, ◌<ℤ◌, List, [], ◌∷◌, length, drop, Bool, true, true≢false, Some, None, refl, sym, ◌∙◌, ap, subst, arith}
use Rattle.std.specs.Prelude.{slice_get}
use Rattle.std.specs.List.Sorted.{IsPermutation}
use Rattle.std.proofs.lemmas.List.Sums.{count_by-le-length}
use Rattle.std.proofs.lemmas.List.{length-drop}
use Rattle.std.proofs.lemmas.Int.{ints, by_lt_z}
use Rattle.itpg_base.specs.Spans.{Within, IsSpan}
use Rattle.itpg_base.specs.Lists.{Among, Ordered}
use Rattle.itpg_base.proofs.Lists.{among_permutation}
use Rattle.relation_rows.specs.declared.times.OneRow.{OneRow}
use Rattle.relation_rows.specs.Times.{TimesHold, IsOneTime}
use Rattle.relation_rows.proofs.Partitions.{first_among, first_before, rest_ordered}
use Rattle.arrivals.specs.declared.counts.CountRow.{CountRow}
use Rattle.arrivals.specs.Counting.{HasSize, AreCounts}
use Rattle.arrivals.specs.Sweeping.{StartsUpTo, StopsUpTo, begins_by, begins_at, ends_by, IsRest, IsStretchEnd, IsStretch, WithSome, Added}
use Rattle.arrivals.proofs.Sizes.{waits, ends, LeftOf, left_all, left_rest, left_number, is_le, is_lt, not_le, le_true, le_false, lt_true, lt_false, fewer_wait}
use Rattle.arrivals.proofs.Sweep.{SoFar, begin, same_on, other_on, counted, stretch_here}

-- ---- the end of a stretch

up_first : (waiting : List OneRow) (first : OneRow) → Ordered StartsUpTo waiting → Some first ≡ slice_get waiting 0 → (r : OneRow) → Among waiting r → first.span.from ≤ℤ r.span.from
up_first waiting first order is r a = ⊎_elim (λ (e : first ≡ r). subst (λ (v : OneRow). first.span.from ≤ℤ v.span.from) e (omega (arith, ints))) (λ b. b) (first_before StartsUpTo waiting first order (sym is) r a)

pub first_waits : (at : ℤ) (waiting : List OneRow) (first : OneRow) → Some first ≡ slice_get waiting 0 → ((r : OneRow) → Among waiting r → at <ℤ r.span.from) → at <ℤ first.span.from
first_waits at waiting first is f = f first (first_among waiting first (sym is))

pub ends_at_stop : (at : ℤ) (waiting : List OneRow) (stop first : OneRow) → Ordered StartsUpTo waiting → Some first ≡ slice_get waiting 0 → at ≤ℤ stop.span.to → stop.span.to <ℤ first.span.from → IsStretchEnd at waiting stop stop.span.to
ends_at_stop at waiting stop first order is up lt = record { some = up; waits = λ r a. let b = up_first waiting first order is r a in omega (arith, ints); stops = omega (arith, ints); moves = inl refl }

pub ends_before_start : (at : ℤ) (waiting : List OneRow) (stop first : OneRow) → Ordered StartsUpTo waiting → Some first ≡ slice_get waiting 0 → at <ℤ first.span.from → first.span.from ≤ℤ stop.span.to → IsStretchEnd at waiting stop (first.span.from -ℤ pos 1)
ends_before_start at waiting stop first order is lt le = record {
  some = omega (arith, ints);
  waits = λ r a. let b = up_first waiting first order is r a in omega (arith, ints);
  stops = omega (arith, ints);
  moves = inr (first, is, omega (arith, ints));
}

-- ---- what is left at a moment

pub record AreLeft (times : List OneRow) (at : ℤ) (waiting ending : List OneRow) : Type 0 where
  pub wait : LeftOf times (waits at) waiting
  pub end : LeftOf times (ends at) ending
  pub starts : Ordered StartsUpTo waiting
  pub stops : Ordered StopsUpTo ending

pub at_first : (times starts stops begun : List OneRow) (first : OneRow) → IsOneTime times → IsPermutation times starts → IsPermutation times stops → Ordered StartsUpTo starts → Ordered StopsUpTo stops → Some first ≡ slice_get starts 0
    → IsRest (λ r. begins_at r first.span.from) starts begun → AreLeft times first.span.from begun stops
at_first times starts stops begun first one same again up on is rest = record {
  wait = left_rest times (λ r. true) (waits first.span.from) (λ r. begins_at r first.span.from) starts begun (left_all times starts same (λ r. true) (λ r i. refl)) rest
      (λ r e. refl)
      (λ r e. lt_false first.span.from r.span.from (is_le r.span.from first.span.from e))
      (λ r e. lt_true first.span.from r.span.from (not_le r.span.from first.span.from e));
  end = left_all times stops again (ends first.span.from) (λ r i. le_true first.span.from r.span.to (let a = up_first starts first up is r (among_permutation times starts same r i) in let span = one.spans r i in omega (arith, ints)));
  starts = subst (λ (v : List OneRow). Ordered StartsUpTo v) (sym rest.is) (rest_ordered StartsUpTo starts rest.place up);
  stops = on;
}

pub further : (times : List OneRow) (at end : ℤ) (waiting ending waiting' ending' : List OneRow) → AreLeft times at waiting ending → at ≤ℤ end → IsRest (λ r. begins_by r end) waiting waiting' → IsRest (λ r. ends_by r end) ending ending' → AreLeft times (end +ℤ pos 1) waiting' ending'
further times at end waiting ending waiting' ending' l up w e = record {
  wait = left_rest times (waits at) (waits (end +ℤ pos 1)) (λ r. begins_by r end) waiting waiting' l.wait w
      (λ r h. lt_true at r.span.from (let a = is_lt (end +ℤ pos 1) r.span.from h in omega (arith, ints)))
      (λ r h. lt_false (end +ℤ pos 1) r.span.from (is_le r.span.from (end +ℤ pos 1) h))
      (λ r h. lt_true (end +ℤ pos 1) r.span.from (not_le r.span.from (end +ℤ pos 1) h));
  end = left_rest times (ends at) (ends (end +ℤ pos 1)) (λ r. ends_by r end) ending ending' l.end e
      (λ r h. le_true at r.span.to (let a = is_le (end +ℤ pos 1) r.span.to h in omega (arith, ints)))
      (λ r h. le_false (end +ℤ pos 1) r.span.to (let a = is_le r.span.to end h in omega (arith, ints)))
      (λ r h. le_true (end +ℤ pos 1) r.span.to (let a = not_le r.span.to end h in omega (arith, ints)));
  starts = subst (λ (v : List OneRow). Ordered StartsUpTo v) (sym w.is) (rest_ordered StartsUpTo waiting w.place l.starts);
  stops = subst (λ (v : List OneRow). Ordered StopsUpTo v) (sym e.is) (rest_ordered StopsUpTo ending e.place l.stops);
}

-- what a stretch asks for
module _ (times : List OneRow) (at : ℤ) (waiting ending : List OneRow) (l : AreLeft times at waiting ending) where
  pub left_waits : (r : OneRow) → Among waiting r → at <ℤ r.span.from
  left_waits r a = is_lt at r.span.from ((l.wait).all r a)

  pub left_stops : (stop : OneRow) → Some stop ≡ slice_get ending 0 → at ≤ℤ stop.span.to
  left_stops stop is = is_le at stop.span.to ((l.end).all stop (first_among ending stop (sym is)))

  pub left_fewer : IsOneTime times → length waiting ≤ length ending
  left_fewer one =
      let p = left_number times (waits at) waiting l.wait in
      let q = left_number times (ends at) ending l.end in
      let f = fewer_wait at times one in
      omega arith

  pub left_few : length times < 2 ^ 32 → length ending < 2 ^ 32
  left_few few =
      let q = left_number times (ends at) ending l.end in
      let f = count_by-le-length (ends at) times in
      omega (arith, few)

  stop_first : (stop : OneRow) → Some stop ≡ slice_get ending 0 → (r : OneRow) → Among ending r → stop.span.to ≤ℤ r.span.to
  stop_first stop is r a = ⊎_elim (λ (e : stop ≡ r). subst (λ (v : OneRow). stop.span.to ≤ℤ v.span.to) e (omega (arith, ints))) (λ b. b) (first_before StopsUpTo ending stop l.stops (sym is) r a)

  pub here : IsOneTime times → (stop : OneRow) → Some stop ≡ slice_get ending 0 → (next : CountRow) → IsStretch at waiting ending stop next → (t : ℤ) → Within t next.span → HasSize (λ o. TimesHold times o t) next.number
  here one stop is next s = stretch_here times one at waiting ending l.wait l.end stop next s (stop_first stop is)

stretch_span : (at : ℤ) (waiting ending : List OneRow) (stop : OneRow) (next : CountRow) → IsStretch at waiting ending stop next → IsSpan next.span
stretch_span at waiting ending stop next s = let f = s.from in let e = (s.end).some in omega (arith, ints)

-- ---- the invariant

pub record IsSweeping (times waiting ending : List OneRow) (rows : List CountRow) (last : CountRow) : Type 0 where
  pub left : AreLeft times (last.span.to +ℤ pos 1) waiting ending
  pub so_far : SoFar (TimesHold times) rows last

pub sweeping_first : (times starts stops begun : List OneRow) (first stop : OneRow) → IsOneTime times → IsPermutation times starts → AreLeft times first.span.from begun stops → Ordered StartsUpTo starts → Some first ≡ slice_get starts 0 → Some stop ≡ slice_get stops 0
    → (last : CountRow) → IsStretch first.span.from begun stops stop last → (waiting ending : List OneRow) → IsRest (λ r. begins_by r last.span.to) begun waiting → IsRest (λ r. ends_by r last.span.to) stops ending
    → (rows : List CountRow) → rows ≡ [] → IsSweeping times waiting ending rows last
sweeping_first times starts stops begun first stop one same l up is to last s waiting ending w e rows none = record {
  left = further times first.span.from last.span.to begun stops waiting ending l (s.end).some w e;
  so_far = begin (TimesHold times) rows last none (stretch_span first.span.from begun stops stop last s) (here times first.span.from begun stops l one stop to last s)
      (λ o t h.
      let i = (h.2).moment in
      let begun' = i.begun in
      let f = s.from in
      let a = up_first starts first up is h.0 (among_permutation times starts same h.0 h.1) in
      omega (arith, ints));
}

module _ (times waiting ending : List OneRow) (rows : List CountRow) (last : CountRow) (g : IsSweeping times waiting ending rows last) (one : IsOneTime times) (stop : OneRow) (is : Some stop ≡ slice_get ending 0)
    (next : CountRow) (s : IsStretch (last.span.to +ℤ pos 1) waiting ending stop next) where
  pub before_next : last.span.from ≤ℤ next.span.to
  before_next = let a = (g.so_far).span in let f = (s.end).some in omega (arith, ints)

  module _ (more : List CountRow) (now : CountRow) (added : Added last next rows more now) where
    to_next : (now.span.to ≡ next.span.to) × SoFar (TimesHold times) more now
    to_next = go added
      where
        span : IsSpan next.span
        span = stretch_span (last.span.to +ℤ pos 1) waiting ending stop next s

        there : (t : ℤ) → Within t next.span → HasSize (λ o. TimesHold times o t) next.number
        there = here times (last.span.to +ℤ pos 1) waiting ending g.left one stop is next s

        go : Added last next rows more now → (now.span.to ≡ next.span.to) × SoFar (TimesHold times) more now
        go (inl (n, e, m, f, t)) = (t, subst (λ (v : List CountRow). SoFar (TimesHold times) v now) (sym e) (same_on (TimesHold times) rows last next now g.so_far span s.from n there m f t))
        go (inr (n, pushed, e)) = (ap (λ (v : CountRow). v.span.to) e, subst (λ (v : CountRow). SoFar (TimesHold times) more v) (sym e) (other_on (TimesHold times) rows last next more g.so_far pushed span s.from n there))

    module _ (waiting' ending' : List OneRow) (w : IsRest (λ r. begins_by r now.span.to) waiting waiting') (e : IsRest (λ r. ends_by r now.span.to) ending ending') where
      pub sweeping_next : IsSweeping times waiting' ending' more now
      sweeping_next = record {
        left = further times (last.span.to +ℤ pos 1) now.span.to waiting ending waiting' ending' g.left (let a = (s.end).some in let b = to_next.0 in omega (arith, ints)) w e;
        so_far = to_next.1;
      }

      -- a row that is so is before the place
      pub shorter : length waiting' + length ending' < length waiting + length ending
      shorter = go (s.end).moves
        where
          moved : (so : OneRow → Bool) (xs ys : List OneRow) (x : OneRow) → Some x ≡ slice_get xs 0 → IsRest so xs ys → so x ≡ true → length ys < length xs
          moved so xs ys x first r holds = elim (zero_or r.place) [
            | inl z ↦ absurd (true≢false (sym holds ∙ r.behind x (subst (λ (k : ℕ). Among (drop k xs) x) (sym z) (dropped xs x (first_among xs x (sym first))))))
            | inr lt ↦ subst (λ (v : List OneRow). length v < length xs) (sym r.is) (some_dropped xs x r.place (sym first) lt)
          ]
            where
              zero_or : (k : ℕ) → (k ≡ 0) ⊎ (0 < k)
              zero_or zero = inl refl
              zero_or (suc k) = inr (omega arith)

              dropped : (zs : List OneRow) (z : OneRow) → Among zs z → Among (drop 0 zs) z
              dropped [] z a = a
              dropped (q ∷ qs) z a = a

              some_dropped : (zs : List OneRow) (z : OneRow) (k : ℕ) → slice_get zs 0 ≡ Some z → 0 < k → length (drop k zs) < length zs
              some_dropped [] z k e lt = let none : ⊥ = cc in absurd none
              some_dropped (q ∷ qs) z k e lt = omega (arith, length-drop k (q ∷ qs))

          no_longer : (so : OneRow → Bool) (xs ys : List OneRow) → IsRest so xs ys → length ys ≤ length xs
          no_longer so xs ys r = subst (λ (v : List OneRow). length v ≤ length xs) (sym r.is) (omega (arith, length-drop r.place xs))

          go : (next.span.to ≡ stop.span.to) ⊎ ((r : OneRow) × (Some r ≡ slice_get waiting 0) × (r.span.from ≡ next.span.to +ℤ pos 1)) → length waiting' + length ending' < length waiting + length ending
          go (inl t) =
              let a = moved (λ r. ends_by r now.span.to) ending ending' stop is e (le_true stop.span.to now.span.to (let b = to_next.0 in omega (arith, ints))) in
              let b = no_longer (λ r. begins_by r now.span.to) waiting waiting' w in
              omega arith
          go (inr (r, first, f)) =
              let a = moved (λ q. begins_by q now.span.to) waiting waiting' r first w (le_true r.span.from (now.span.to +ℤ pos 1) (let b = to_next.0 in omega (arith, ints))) in
              let b = no_longer (λ q. ends_by q now.span.to) ending ending' e in
              omega arith

no_first : (rows : List OneRow) → None ≡ slice_get rows 0 → rows ≡ []
no_first [] e = refl
no_first (r ∷ rs) e = let none : ⊥ = cc in absurd none

pub all_counted : (times waiting ending : List OneRow) (rows : List CountRow) (last : CountRow) → IsSweeping times waiting ending rows last → None ≡ slice_get ending 0 → (now : List CountRow) → WithSome last rows now → AreCounts (TimesHold times) now
all_counted times waiting ending rows last g none now pushed = counted (TimesHold times) rows last now g.so_far pushed
    (λ o t h.
    let i = (h.2).moment in
    let going = i.going in
    by_lt_z last.span.to t
    (λ lt. absurd (subst (λ (v : List OneRow). Among v h.0) (no_first ending none) (((g.left).end).whole h.0 h.1 (le_true (last.span.to +ℤ pos 1) h.0.span.to (omega (arith, ints))))))
    (λ le. le))

pub none_counted : (times sorted : List OneRow) (rows : List CountRow) → IsPermutation times sorted → None ≡ slice_get sorted 0 → rows ≡ [] → AreCounts (TimesHold times) rows
none_counted times sorted rows same none e = subst (λ (v : List CountRow). AreCounts (TimesHold times) v) (sym e) (record {
  spans = λ c i. absurd i;
  some = λ c i. absurd i;
  each = λ c t i w. absurd i;
  whole = λ o t h. absurd (subst (λ (v : List OneRow). Among v h.0) (no_first sorted none) (among_permutation times sorted same h.0 h.1));
  order = tt;
})
