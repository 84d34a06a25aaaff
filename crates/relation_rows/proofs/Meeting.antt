-- The one-time rows that a search finds.
use Rattle.std.proofs.Common.{◌≡◌, ◌⊎◌, inl, inr, ⊎_elim, ℕ, ◌-◌, ◌<◌, ◌≤◌, ℤ, ◌≤ℤ◌, ◌<ℤ◌, List, [], ◌∷◌, length, get_or, take, drop, refl, sym, ◌∙◌, subst, arith, true, false, true≢false}
use Rattle.std.proofs.lemmas.Int.{ints, by_lt_z}
use Rattle.std.proofs.lemmas.List.{take_all, length-drop, take-append-drop}
use Rattle.std.proofs.lemmas.Bool.Decides.{eqb_tells, Decides-ltb}
use Rattle.std.specs.List.Sorted.{IsPartitionedBy, IsPartitionPoint}
use Rattle.itpg_base.specs.Lists.{Among, Ordered}
use Rattle.itpg_base.proofs.Lists.{ordered_by_place, ordered_first}
use Rattle.relation_rows.specs.declared.times.OneRow.{OneRow}
use Rattle.itpg_base.specs.Spans.{IsSpan}
use Rattle.relation_rows.specs.Times.{TimeBefore, IsOneTime, MeetsTime, begins_by, ends_before}
use Rattle.relation_rows.proofs.Partitions.{among_before, among_behind, among_either, front_among, rest_among, rest_ordered}

-- by object, and within it both ends rise
abbrev pub Rises : OneRow → OneRow → Type 0
Rises s t = (s.object.0 < t.object.0) ⊎ ((s.object.0 ≡ t.object.0) × (s.span.from ≤ℤ t.span.from) × (s.span.to ≤ℤ t.span.to))

rises_of : (s t : OneRow) → TimeBefore s t → IsSpan s.span → IsSpan t.span → Rises s t
rises_of s t (inl l) a b = inl l
rises_of s t (inr (e, l)) a b = inr (e, omega (arith, ints), omega (arith, ints))

rising_list : (rows : List OneRow) → Ordered TimeBefore rows → ((r : OneRow) → Among rows r → IsSpan r.span) → Ordered Rises rows
rising_list [] o spans = tt
rising_list (x ∷ xs) o spans = (λ y a. rises_of x y (o.0 y a) (spans x (inl refl)) (spans y (inr a)), rising_list xs o.1 (λ r a. spans r (inr a)))

pub rising : (rows : List OneRow) → IsOneTime rows → Ordered Rises rows
rising rows t = rising_list rows t.order t.spans

-- the row is of an object before o, or of o and so
abbrev Past : OneRow → ℕ → Type 0 → Type 0
Past s o P = (s.object.0 < o) ⊎ ((s.object.0 ≡ o) × P)

departs_is : (s : OneRow) (o : ℕ) (t : ℤ) → begins_by s o t ≡ true → Past s o (s.span.from ≤ℤ t)
departs_is s o t e = grind (arith, ints, Decides-ltb)

is_departed : (s : OneRow) (o : ℕ) (t : ℤ) → Past s o (s.span.from ≤ℤ t) → begins_by s o t ≡ true
is_departed s o t (inl l) = grind (arith, ints, Decides-ltb)
is_departed s o t (inr (e, l)) = grind (arith, ints, Decides-ltb)

left_is : (s : OneRow) (o : ℕ) (t : ℤ) → ends_before s o t ≡ true → Past s o (s.span.to <ℤ t)
left_is s o t e = grind (arith, ints, Decides-ltb)

is_left : (s : OneRow) (o : ℕ) (t : ℤ) → Past s o (s.span.to <ℤ t) → ends_before s o t ≡ true
is_left s o t (inl l) = grind (arith, ints, Decides-ltb)
is_left s o t (inr (e, l)) = grind (arith, ints, Decides-ltb)

pub ended : (s : OneRow) (o : ℕ) (t : ℤ) → ends_before s o t ≡ true → (s.object.0 < o) ⊎ ((s.object.0 ≡ o) × (s.span.to <ℤ t))
ended s o t e = left_is s o t e

pub ends_partitioned : (rows : List OneRow) → Ordered Rises rows → (o : ℕ) (from : ℤ) → IsPartitionedBy (λ (s : OneRow). ends_before s o from) rows
ends_partitioned rows order o from i j d le lt e = elim (eqb_tells i j) [
  | inl s ↦ subst (λ (v : ℕ). ends_before (get_or rows v d) o from ≡ true) (sym s.1) e
  | inr m ↦ is_left (get_or rows i d) o from (go (get_or rows i d) (get_or rows j d) (ordered_by_place Rises rows order i j d (let ne = m.1 in omega arith) lt) (left_is (get_or rows j d) o from e))
]
  where
    go : (s t : OneRow) → Rises s t → Past t o (t.span.to <ℤ from) → Past s o (s.span.to <ℤ from)
    go s t (inl l) (inl m) = inl (omega arith)
    go s t (inl l) (inr (f, m)) = inl (omega arith)
    go s t (inr (e, a, b)) (inl m) = inl (omega arith)
    go s t (inr (e, a, b)) (inr (f, m)) = inr (e ∙ f, omega (arith, ints))

module _ (rows : List OneRow) (table : IsOneTime rows) (o : ℕ) (from to : ℤ) where
  pub count_partitioned : IsPartitionedBy (λ (s : OneRow). begins_by s o to) rows
  count_partitioned i j d le lt e = elim (eqb_tells i j) [
    | inl s ↦ subst (λ (v : ℕ). begins_by (get_or rows v d) o to ≡ true) (sym s.1) e
    | inr n ↦ is_departed (get_or rows i d) o to (go (get_or rows i d) (get_or rows j d) (ordered_by_place Rises rows (rising rows table) i j d (let ne = n.1 in omega arith) lt) (departs_is (get_or rows j d) o to e))
  ]
    where
      go : (s t : OneRow) → Rises s t → Past t o (t.span.from ≤ℤ to) → Past s o (s.span.from ≤ℤ to)
      go s t (inl l) (inl m) = inl (omega arith)
      go s t (inl l) (inr (f, m)) = inl (omega arith)
      go s t (inr (e, a, b)) (inl m) = inl (omega arith)
      go s t (inr (e, a, b)) (inr (f, m)) = inr (e ∙ f, omega (arith, ints))

  module _ (n : ℕ) (bound : n ≤ length rows) (point : IsPartitionPoint (λ (s : OneRow). begins_by s o to ≡ true) (λ (s : OneRow). begins_by s o to ≡ false) rows n) where
    begun_order : Ordered Rises (take n rows)
    begun_order = ordered_first Rises (take n rows) (drop n rows) (subst (λ (v : List OneRow). Ordered Rises v) (sym (take-append-drop n rows)) (rising rows table))

    pub left_partitioned : IsPartitionedBy (λ (s : OneRow). ends_before s o from) (take n rows)
    left_partitioned = ends_partitioned (take n rows) begun_order o from

    module _ (m : ℕ) (within : m ≤ length (take n rows)) (split : IsPartitionPoint (λ (s : OneRow). ends_before s o from ≡ true) (λ (s : OneRow). ends_before s o from ≡ false) (take n rows) m) where
      rest_is : take (length (take n rows) - m) (drop m (take n rows)) ≡ drop m (take n rows)
      rest_is = take_all (length (take n rows) - m) (drop m (take n rows)) (omega (arith, length-drop m (take n rows)))

      in_rest : (s : OneRow) → Among (take (length (take n rows) - m) (drop m (take n rows))) s → Among (drop m (take n rows)) s
      in_rest s a = subst (λ (v : List OneRow). Among v s) rest_is a

      pub found_there : (s : OneRow) → Among (take (length (take n rows) - m) (drop m (take n rows))) s → Among rows s
      found_there s a = front_among rows n s (rest_among (take n rows) m s (in_rest s a))

      pub found_object : (s : OneRow) → Among (take (length (take n rows) - m) (drop m (take n rows))) s → s.object.0 ≡ o
      found_object s a =
          let begun = departs_is s o to (among_before (λ (t : OneRow). begins_by t o to ≡ true) rows n bound point.0 s (rest_among (take n rows) m s (in_rest s a))) in
          let stays = among_behind (λ (t : OneRow). ends_before t o from ≡ false) (take n rows) m within split.1 s (in_rest s a) in
          ⊎_elim (λ l. absurd (true≢false (sym (is_left s o from (inl l)) ∙ stays))) (λ k. k.0) begun

      pub found_all : (s : OneRow) → Among rows s → s.object.0 ≡ o → s.span.from ≤ℤ to → from ≤ℤ s.span.to → Among (take (length (take n rows) - m) (drop m (take n rows))) s
      found_all s a e begins ends =
          subst (λ (v : List OneRow). Among v s) (sym rest_is) (⊎_elim
          (λ t. ⊎_elim
          (λ b. absurd (⊎_elim (λ l. omega arith) (λ k. let l = k.1 in omega (arith, ints)) (left_is s o from (among_before (λ (u : OneRow). ends_before u o from ≡ true) (take n rows) m within split.0 s b))))
          (λ b. b)
          (among_either (take n rows) m s t))
          (λ d. absurd (true≢false (sym (is_departed s o to (inr (e, begins))) ∙ among_behind (λ (u : OneRow). begins_by u o to ≡ false) rows n bound point.1 s d)))
          (among_either rows n s a))

      pub found_meets : (row : OneRow) → row.object.0 ≡ o → row.span.from ≡ from → row.span.to ≡ to → (s : OneRow) → Among (take (length (take n rows) - m) (drop m (take n rows))) s → MeetsTime row s
      found_meets row e f g s a =
          let begun = departs_is s o to (among_before (λ (t : OneRow). begins_by t o to ≡ true) rows n bound point.0 s (rest_among (take n rows) m s (in_rest s a))) in
          let stays = among_behind (λ (t : OneRow). ends_before t o from ≡ false) (take n rows) m within split.1 s (in_rest s a) in
          let same = found_object s a in
          record {
            object = same ∙ sym e;
            begins = ⊎_elim (λ l. absurd (omega arith)) (λ k. let b = k.1 in omega (arith, ints)) begun;
            ends = by_lt_z s.span.to from (λ lt. absurd (true≢false (sym (is_left s o from (inr (same, lt))) ∙ stays))) (λ le. omega (arith, ints));
          }

      pub found_order : IsOneTime (take (length (take n rows) - m) (drop m (take n rows)))
      found_order = record {
        spans = λ r a. table.spans r (found_there r a);
        order = subst (λ (v : List OneRow). Ordered TimeBefore v) (sym rest_is)
            (rest_ordered TimeBefore (take n rows) m (ordered_first TimeBefore (take n rows) (drop n rows) (subst (λ (v : List OneRow). Ordered TimeBefore v) (sym (take-append-drop n rows)) table.order)));
      }
