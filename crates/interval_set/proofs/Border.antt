-- What holds at the two borders of a run that is put among its neighbours.
use Rattle.std.proofs.Common.{◌≡◌, ◌≢◌, ◌⊎◌, inl, inr, ◌-◌, ℤ, ◌≤ℤ◌, ◌<ℤ◌, List, [], ◌∷◌, length, get_or, slice_get, Option, Some, None, All, refl, sym, subst, arith}
use Rattle.std.proofs.lemmas.Int.{ints, clamps}
use Rattle.std.proofs.lemmas.Option.{slice_get-get_or}
use Rattle.itpg_base.specs.Spans.{Span, Within}
use Rattle.itpg_base.specs.Graphs.{Valued, AreRunsOfValues}
use Rattle.interval_set.specs.Places.{IsNear}
use Rattle.interval_set.specs.Borders.{IsPartBefore, IsPartAfter, IsLeftBefore, IsLeftAfter, LeavesBefore, LeavesAfter, MeetsBefore, MeetsAfter}
use Rattle.itpg_base.specs.Lists.{Among}
use Rattle.itpg_base.proofs.Lists.{among_at, place_of, all_among}
use Rattle.interval_set.proofs.Rising.{Rises, rises, one_run}

-- the first of the runs: none, or one that begins no later than any
abbrev pub IsFirst : List Valued → Option Valued → Type 0
IsFirst M None = (m : Valued) → Among M m → ⊥
IsFirst M (Some h) = Among M h × ((m : Valued) → Among M m → h.span.from ≤ℤ m.span.from)

-- the last of the runs: none, or one that ends no earlier than any
abbrev pub IsLast : List Valued → Option Valued → Type 0
IsLast M None = (m : Valued) → Among M m → ⊥
IsLast M (Some l) = Among M l × ((m : Valued) → Among M m → m.span.to ≤ℤ l.span.to)

pub first_of : (M : List Valued) → AreRunsOfValues M → IsFirst M (slice_get M 0)
first_of [] c = λ m n. n
first_of (h ∷ M) c = (
  inl refl,
  λ m n. let k = place_of (h ∷ M) m n in (subst (λ (y : Valued). Rises h y) (k.2 h) (rises (h ∷ M) 0 k.0 h c (omega arith) k.1)).from,
)

pub last_of : (M : List Valued) → AreRunsOfValues M → IsLast M (slice_get M (length M - 1))
last_of [] c = λ m n. n
last_of (h ∷ M) c =
    let l = get_or (h ∷ M) (length (h ∷ M) - 1) h in
    let is : slice_get (h ∷ M) (length (h ∷ M) - 1) ≡ Some l = slice_get-get_or (h ∷ M) (length (h ∷ M) - 1) h (omega arith) in
    subst (IsLast (h ∷ M)) (sym is) (
      among_at (h ∷ M) (length (h ∷ M) - 1) h (omega arith),
      λ m n. let k = place_of (h ∷ M) m n in
          let below = k.1 in
          (subst (λ (y : Valued). Rises y l) (k.2 h) (rises (h ∷ M) k.0 (length (h ∷ M) - 1) h c (omega arith) (omega arith))).to,
    )

module _ (M : List Valued) (c : AreRunsOfValues M) (s : Span) (near : All (λ m. IsNear m.span s) M) where
  -- a run with a moment before the span is the first
  is_first : (h m : Valued) (t : ℤ) → Among M h → Among M m → h.span.from ≤ℤ m.span.from → Within t m.span → t <ℤ s.from → Within t h.span × (h ≡ m)
  is_first h m t a b first w early =
      let begun = w.begun in
      let reach = (all_among (λ m. IsNear m.span s) M near h a).from in
      let v : Within t h.span = record { begun = omega (arith, ints); going = omega (arith, ints) } in
      (v, one_run M h m t c a b v w)

  is_last : (l m : Valued) (t : ℤ) → Among M l → Among M m → m.span.to ≤ℤ l.span.to → Within t m.span → s.to <ℤ t → Within t l.span × (l ≡ m)
  is_last l m t a b last w late =
      let going = w.going in
      let reach = (all_among (λ m. IsNear m.span s) M near l a).to in
      let v : Within t l.span = record { begun = omega (arith, ints); going = omega (arith, ints) } in
      (v, one_run M l m t c a b v w)

  -- what is left before the span is the part of one run
  pub record Before (left : Option Valued) : Type 0 where
    pub parts : (p : Valued) → left ≡ Some p → (h : Valued) × Among M h × IsPartBefore h s p
    pub whole : (m : Valued) (t : ℤ) → Among M m → Within t m.span → t <ℤ s.from → (p : Valued) × (left ≡ Some p) × Within t p.span × (p.value ≡ m.value)

  pub record After (left : Option Valued) : Type 0 where
    pub parts : (p : Valued) → left ≡ Some p → (l : Valued) × Among M l × IsPartAfter l s p
    pub whole : (m : Valued) (t : ℤ) → Among M m → Within t m.span → s.to <ℤ t → (p : Valued) × (left ≡ Some p) × Within t p.span × (p.value ≡ m.value)

  part_of_first : (h : Valued) (left : Option Valued) → Among M h → ((m : Valued) → Among M m → h.span.from ≤ℤ m.span.from) → IsLeftBefore h s left → Before left
  part_of_first h None a first none = record {
    parts = λ p e. let no : ⊥ = cc in absurd no;
    whole = λ m t b w early. let v = (is_first h m t a b (first m b) w early).0 in let begun = v.begun in absurd (omega (arith, ints));
  }
  part_of_first h (Some p) a first part = record {
    parts = λ q e. let same : p ≡ q = cc in (h, a, subst (λ (y : Valued). IsPartBefore h s y) same part);
    whole = λ m t b w early.
        let one = is_first h m t a b (first m b) w early in
        let v = one.0 in let begun = v.begun in let going = v.going in let from = part.from in let to = part.to in let value = part.value in
        let inside : Within t p.span = record { begun = omega (arith, ints); going = omega (arith, ints, clamps) } in
        (p, refl, inside, subst (λ (y : Valued). p.value ≡ y.value) one.1 value);
  }

  part_of_last : (l : Valued) (left : Option Valued) → Among M l → ((m : Valued) → Among M m → m.span.to ≤ℤ l.span.to) → IsLeftAfter l s left → After left
  part_of_last l None a last none = record {
    parts = λ p e. let no : ⊥ = cc in absurd no;
    whole = λ m t b w late. let v = (is_last l m t a b (last m b) w late).0 in let going = v.going in absurd (omega (arith, ints));
  }
  part_of_last l (Some p) a last part = record {
    parts = λ q e. let same : p ≡ q = cc in (l, a, subst (λ (y : Valued). IsPartAfter l s y) same part);
    whole = λ m t b w late.
        let one = is_last l m t a b (last m b) w late in
        let v = one.0 in let begun = v.begun in let going = v.going in let from = part.from in let to = part.to in let value = part.value in
        let inside : Within t p.span = record { begun = omega (arith, ints, clamps); going = omega (arith, ints) } in
        (p, refl, inside, subst (λ (y : Valued). p.value ≡ y.value) one.1 value);
  }

  left_by : (o left : Option Valued) → IsFirst M o → LeavesBefore o s left → Before left
  left_by None left first none = record {
    parts = λ p e. let no : ⊥ = cc in absurd no;
    whole = λ m t b w early. absurd (first m b);
  }
  left_by (Some h) left first part = part_of_first h left first.0 first.1 part

  after_by : (o left : Option Valued) → IsLast M o → LeavesAfter o s left → After left
  after_by None left last none = record {
    parts = λ p e. let no : ⊥ = cc in absurd no;
    whole = λ m t b w late. absurd (last m b);
  }
  after_by (Some l) left last part = part_of_last l left last.0 last.1 part

  pub left_before : (left : Option Valued) → LeavesBefore (slice_get M 0) s left → Before left
  left_before left leaves = left_by (slice_get M 0) left (first_of M c) leaves

  pub left_after : (left : Option Valued) → LeavesAfter (slice_get M (length M - 1)) s left → After left
  left_after left leaves = after_by (slice_get M (length M - 1)) left (last_of M c) leaves

module _ (M : List Valued) (c : AreRunsOfValues M) (item : Valued) (near : All (λ m. IsNear m.span item.span) M) where
  -- where the item begins: what is left of one run of another value, or one run of the same value joined
  pub record Begins (left : Option Valued) (reach : Span) : Type 0 where
    pub parts : (p : Valued) → left ≡ Some p → (h : Valued) × Among M h × IsPartBefore h item.span p × (h.value ≢ item.value) × (reach ≡ item.span)
    pub reaches : (reach ≡ item.span) ⊎ ((h : Valued) × Among M h × (h.value ≡ item.value) × (reach ≡ h.span))
    pub whole : (m : Valued) (t : ℤ) → Among M m → Within t m.span → t <ℤ item.span.from → ((m.value ≡ item.value) × (reach.from ≤ℤ t)) ⊎ ((p : Valued) × (left ≡ Some p) × Within t p.span × (p.value ≡ m.value))

  pub record Ends (left : Option Valued) (reach : Span) : Type 0 where
    pub parts : (p : Valued) → left ≡ Some p → (l : Valued) × Among M l × IsPartAfter l item.span p × (l.value ≢ item.value) × (reach ≡ item.span)
    pub reaches : (reach ≡ item.span) ⊎ ((l : Valued) × Among M l × (l.value ≡ item.value) × (reach ≡ l.span))
    pub whole : (m : Valued) (t : ℤ) → Among M m → Within t m.span → item.span.to <ℤ t → ((m.value ≡ item.value) × (t ≤ℤ reach.to)) ⊎ ((p : Valued) × (left ≡ Some p) × Within t p.span × (p.value ≡ m.value))

  begins_by : (o left : Option Valued) (reach : Span) → IsFirst M o → MeetsBefore o item left reach → Begins left reach
  begins_by None left reach first none = record {
    parts = λ p e. let none_left = none.0 in let no : ⊥ = cc in absurd no;
    reaches = inl none.1;
    whole = λ m t b w early. absurd (first m b);
  }
  begins_by (Some h) left reach first (inl joined) = record {
    parts = λ p e. let none_left = joined.1 in let no : ⊥ = cc in absurd no;
    reaches = inr (h, first.0, joined.0, joined.2);
    whole = λ m t b w early.
        let one = is_first M c item.span near h m t first.0 b (first.1 m b) w early in
        let v = one.0 in
        inl (subst (λ (y : Valued). y.value ≡ item.value) one.1 joined.0, subst (λ (y : Span). y.from ≤ℤ t) (sym joined.2) v.begun);
  }
  begins_by (Some h) left reach first (inr parted) =
      let before = part_of_first M c item.span near h left first.0 first.1 parted.1 in
      record {
        parts = λ p e. let q = is_the_part h left p parted.1 e in (h, first.0, q, parted.0, parted.2);
        reaches = inl parted.2;
        whole = λ m t b w early. inr (before.whole m t b w early);
      }
    where
      is_the_part : (h : Valued) (left : Option Valued) (p : Valued) → IsLeftBefore h item.span left → left ≡ Some p → IsPartBefore h item.span p
      is_the_part h None p part e = let no : ⊥ = cc in absurd no
      is_the_part h (Some q) p part e = let same : q ≡ p = cc in subst (λ (y : Valued). IsPartBefore h item.span y) same part

  ends_by : (o left : Option Valued) (reach : Span) → IsLast M o → MeetsAfter o item left reach → Ends left reach
  ends_by None left reach last none = record {
    parts = λ p e. let none_left = none.0 in let no : ⊥ = cc in absurd no;
    reaches = inl none.1;
    whole = λ m t b w late. absurd (last m b);
  }
  ends_by (Some l) left reach last (inl joined) = record {
    parts = λ p e. let none_left = joined.1 in let no : ⊥ = cc in absurd no;
    reaches = inr (l, last.0, joined.0, joined.2);
    whole = λ m t b w late.
        let one = is_last M c item.span near l m t last.0 b (last.1 m b) w late in
        let v = one.0 in
        inl (subst (λ (y : Valued). y.value ≡ item.value) one.1 joined.0, subst (λ (y : Span). t ≤ℤ y.to) (sym joined.2) v.going);
  }
  ends_by (Some l) left reach last (inr parted) =
      let after = part_of_last M c item.span near l left last.0 last.1 parted.1 in
      record {
        parts = λ p e. let q = is_the_part l left p parted.1 e in (l, last.0, q, parted.0, parted.2);
        reaches = inl parted.2;
        whole = λ m t b w late. inr (after.whole m t b w late);
      }
    where
      is_the_part : (l : Valued) (left : Option Valued) (p : Valued) → IsLeftAfter l item.span left → left ≡ Some p → IsPartAfter l item.span p
      is_the_part l None p part e = let no : ⊥ = cc in absurd no
      is_the_part l (Some q) p part e = let same : q ≡ p = cc in subst (λ (y : Valued). IsPartAfter l item.span y) same part

  pub begins : (left : Option Valued) (reach : Span) → MeetsBefore (slice_get M 0) item left reach → Begins left reach
  begins left reach meets = begins_by (slice_get M 0) left reach (first_of M c) meets

  pub ends : (left : Option Valued) (reach : Span) → MeetsAfter (slice_get M (length M - 1)) item left reach → Ends left reach
  ends left reach meets = ends_by (slice_get M (length M - 1)) left reach (last_of M c) meets
