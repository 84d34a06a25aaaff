-- One row of a difference after the other, with the cuts that are left for those behind it.
use Rattle.std.proofs.Common.{◌≡◌, ◌⊎◌, inl, inr, ⊎_elim, ℕ, suc, ◌+◌, ◌<◌, ◌≤◌, pos, ◌+ℤ◌, ◌≤ℤ◌, ◌<ℤ◌, List, [], ◌∷◌, length, take, drop, slice_index_or, drop-cons, append-nil, true, false, refl, sym, ◌∙◌, ap, subst, arith}
use Rattle.std.proofs.lemmas.Int.{ints}
use Rattle.std.specs.List.Sorted.{IsPartitionPoint}
use Rattle.itpg_base.specs.Lists.{Among, Ordered}
use Rattle.itpg_base.specs.Spans.{IsSpan}
use Rattle.relation_rows.specs.declared.times.OneRow.{OneRow}
use Rattle.relation_rows.specs.Times.{TimeBefore, AreTimes, IsOneTime, OnlyFirstHas, MeetsTime, HasUncut, HaveSameMoments, Reaches, CutsRow, ends_before}
use Rattle.relation_rows.proofs.Meeting.{ended}
use Rattle.relation_rows.proofs.TimesMinus.{first_more}
use Rattle.relation_rows.proofs.Partitions.{among_before, among_either, rest_among, rest_ordered}

-- ---- cuts that end too soon are passed

module _ (cuts : List OneRow) (order : IsOneTime cuts) (row : OneRow) (n : ℕ) (bound : n ≤ length cuts)
    (point : IsPartitionPoint (λ (s : OneRow). ends_before s row.object.0 row.span.from ≡ true) (λ (s : OneRow). ends_before s row.object.0 row.span.from ≡ false) cuts n) where
  pub passed_there : (s : OneRow) → Among (drop n cuts) s → Among cuts s
  passed_there s a = rest_among cuts n s a

  pub passed_order : IsOneTime (drop n cuts)
  passed_order = record { spans = λ r a. order.spans r (passed_there r a); order = rest_ordered TimeBefore cuts n order.order }

  pub passed_kept : (s : OneRow) → Among cuts s → Reaches row s → Among (drop n cuts) s
  passed_kept s a reaches = ⊎_elim
      (λ b. absurd (too_soon reaches (ended s row.object.0 row.span.from (among_before (λ (u : OneRow). ends_before u row.object.0 row.span.from ≡ true) cuts n bound point.0 s b))))
      (λ b. b)
      (among_either cuts n s a)
    where
      too_soon : Reaches row s → (s.object.0 < row.object.0) ⊎ ((s.object.0 ≡ row.object.0) × (s.span.to <ℤ row.span.from)) → ⊥
      too_soon (inl l) (inl m) = omega arith
      too_soon (inl l) (inr (e, m)) = omega arith
      too_soon (inr (e, l)) (inl m) = omega arith
      too_soon (inr (e, l)) (inr (f, m)) = omega (arith, ints, l, m)

-- ---- the row is one of the cuts

module _ (row cut : OneRow) (cuts later : List OneRow) (is : cuts ≡ cut ∷ later) (order : IsOneTime cuts) (span : IsSpan row.span) (same : HaveSameMoments cut row) (old : List OneRow) where
  own_order : IsOneTime (cut ∷ later)
  own_order = subst IsOneTime is order

  behind : (s : OneRow) → Among later s → (s.object.0 ≡ row.object.0) → (row.span.to +ℤ pos 1) <ℤ s.span.from
  behind s a e = ⊎_elim
      (λ l. absurd (let f = same.object in omega (arith, l, e, f)))
      (λ k. let l = k.1 in let f = same.to in omega (arith, ints, l, f))
      (own_order.order.0 s a)

  found : (s : OneRow) → Among cuts s → (cut ≡ s) ⊎ Among later s
  found s a = subst (λ (v : List OneRow). Among v s) is a

  pub same_cut : CutsRow row cuts later old old
  same_cut = record {
    met = cut ∷ [];
    there = λ s a. ⊎_elim (λ (e : cut ≡ s). subst (λ (v : List OneRow). Among v s) (sym is) (inl e)) (λ b. absurd b) a;
    meets = λ s a. ⊎_elim (λ (e : cut ≡ s). subst (MeetsTime row) e (let f = same.from in let t = same.to in record { object = same.object; begins = omega (arith, ints, f, span); ends = omega (arith, ints, t, span) })) (λ b. absurd b) a;
    all = λ s a m. ⊎_elim (λ (e : cut ≡ s). inl e) (λ b. absurd (let l = behind s b m.object in let k = m.begins in omega (arith, ints, l, k))) (found s a);
    uncut = (
      [],
      sym (append-nil old),
      record {
        whole = λ o t h.
            let w = h.0.moment in
            let from = w.begun in
            let to = w.going in
            let f = same.from in
            let g = same.to in
            absurd (h.1 (cut, inl refl, record { begun = omega (arith, ints, from, f); going = omega (arith, ints, to, g) }));
        only = λ o t h. absurd h.1;
        spans = λ r a. absurd a;
        order = tt;
      },
    );
    left_there = λ s a. subst (λ (v : List OneRow). Among v s) (sym is) (inr a);
    left_order = record { spans = λ r a. own_order.spans r (inr a); order = own_order.order.1 };
    kept = λ s a k. ⊎_elim
        (λ (e : cut ≡ s). absurd (not_after (subst (λ (v : OneRow). (row.object.0 < v.object.0) ⊎ ((v.object.0 ≡ row.object.0) × (row.span.to <ℤ v.span.to))) (sym e) k)))
        (λ b. b)
        (found s a);
  }
    where
      not_after : (row.object.0 < cut.object.0) ⊎ ((cut.object.0 ≡ row.object.0) × (row.span.to <ℤ cut.span.to)) → ⊥
      not_after (inl l) = let e = same.object in omega (arith, l, e)
      not_after (inr (e, l)) = let f = same.to in omega (arith, ints, l, f)

-- ---- the row meets some of the cuts that reach it

pub met_cuts : (row : OneRow) → IsSpan row.span → (cuts left met old next : List OneRow) → IsOneTime left
    → ((s : OneRow) → Among left s → Among cuts s) → ((s : OneRow) → Among cuts s → Reaches row s → Among left s)
    → ((s : OneRow) → Among met s → Among left s) → ((s : OneRow) → Among met s → MeetsTime row s)
    → ((s : OneRow) → Among left s → s.object.0 ≡ row.object.0 → s.span.from ≤ℤ row.span.to → row.span.from ≤ℤ s.span.to → Among met s)
    → HasUncut row met old next → CutsRow row cuts left old next
met_cuts row span cuts left met old next order there kept met_there meets all uncut = record {
  met = met;
  there = λ s a. there s (met_there s a);
  meets = meets;
  all = λ s a m. all s (kept s a (inr (m.object, m.ends))) m.object m.begins m.ends;
  uncut = uncut;
  left_there = there;
  left_order = order;
  kept = λ s a k. kept s a (⊎_elim (λ l. inl l) (λ h. let l = h.1 in inr (h.0, omega (arith, ints, l, span))) k);
}

-- ---- the walk

-- the rows that were read are without the cuts, and all cuts that the others meet are left
pub record IsCutting (first second : List OneRow) (i : ℕ) (cuts now : List OneRow) : Type 0 where
  pub times : AreTimes (OnlyFirstHas (take i first) second) now
  pub order : IsOneTime cuts
  pub there : (s : OneRow) → Among cuts s → Among second s
  pub left : (r s : OneRow) → Among (drop i first) r → Among second s → MeetsTime r s → Among cuts s

pub cutting_start : (first second times : List OneRow) → IsOneTime second → AreTimes (OnlyFirstHas (take 0 first) second) times → IsCutting first second 0 second times
cutting_start first second times order none = record { times = none; order = order; there = λ s a. a; left = λ r s a b m. b }

module _ (first second : List OneRow) (is : IsOneTime first) (k : ℕ) (d row : OneRow) (lt : k < length first) (read : row ≡ slice_index_or first k d)
    (cuts now : List OneRow) (so : IsCutting first second k cuts now) (left next : List OneRow) (cut : CutsRow row cuts left now next) where
  rest_is : drop k first ≡ row ∷ drop (k + 1) first
  rest_is =
      let e : suc k ≡ k + 1 = omega arith in
      drop-cons first k d lt ∙ ap (λ (v : ℕ). slice_index_or first k d ∷ drop v first) e ∙ ap (λ (v : OneRow). v ∷ drop (k + 1) first) (sym read)

  row_there : Among (drop k first) row
  row_there = subst (λ (v : List OneRow). Among v row) (sym rest_is) (inl refl)

  later_rows : (r : OneRow) → Among (drop (k + 1) first) r → Among (drop k first) r × TimeBefore row r
  later_rows r a = (
    subst (λ (v : List OneRow). Among v r) (sym rest_is) (inr a),
    (subst (λ (v : List OneRow). Ordered TimeBefore v) rest_is (rest_ordered TimeBefore first k is.order)).0 r a,
  )

  goes_on : (r s : OneRow) → TimeBefore row r → MeetsTime r s → (row.object.0 < s.object.0) ⊎ ((s.object.0 ≡ row.object.0) × (row.span.to <ℤ s.span.to))
  goes_on r s (inl l) m = inl (let e = m.object in omega (arith, l, e))
  goes_on r s (inr (f, l)) m = let e = m.ends in inr (m.object ∙ sym f, omega (arith, ints, l, e))

  pub cutting_more : IsCutting first second (k + 1) left next
  cutting_more = record {
    times = first_more first second is k d row lt read cut.met (λ s a. so.there s (cut.there s a)) cut.meets
        (λ s a e begins ends. let m : MeetsTime row s = record { object = e; begins = begins; ends = ends } in cut.all s (so.left row s row_there a m) m)
        now next cut.uncut so.times;
    order = cut.left_order;
    there = λ s a. so.there s (cut.left_there s a);
    left = λ r s a b m. let w = later_rows r a in cut.kept s (so.left r s w.0 b m) (goes_on r s w.1 m);
  }
