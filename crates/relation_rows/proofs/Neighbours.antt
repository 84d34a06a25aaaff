-- A list that is read from its first element on, each beside the one before it.
use Rattle.std.proofs.Common.{◌≡◌, inl, inr, ℕ, ◌+◌, ◌-◌, ◌<◌, ◌≤◌, List, length, get_or, sym, subst, arith}
use Rattle.std.proofs.lemmas.List.{get_or_default}
use Rattle.itpg_base.proofs.Searches.{at_most}

-- each element up to a place comes after the one before it
abbrev pub AreNext : {X : Type 0} → (X → X → Type 0) → List X → ℕ → Type 0
AreNext {X} Before xs i = (k : ℕ) (d : X) → k + 1 < i → Before (get_or xs k d) (get_or xs (k + 1) d)

pub none_next : {X : Type 0} (Before : X → X → Type 0) (xs : List X) → AreNext Before xs 1
none_next Before xs k d lt = absurd (omega arith)

pub one_next : {X : Type 0} (Before : X → X → Type 0) (xs : List X) (i : ℕ) (e f : X) → 1 ≤ i → i < length xs → AreNext Before xs i → Before (get_or xs (i - 1) e) (get_or xs i f) → AreNext Before xs (i + 1)
one_next {X} Before xs i e f some within so one k d lt = elim (at_most (k + 2) i) [
  | inl le ↦ so k d (omega (arith, le))
  | inr gt ↦ last (omega (arith, gt, lt)) (omega (arith, gt, lt, some))
]
  where
    last : k + 1 ≡ i → k ≡ i - 1 → Before (get_or xs k d) (get_or xs (k + 1) d)
    last g h =
        let front = subst (λ (v : X). Before v (get_or xs i f)) (get_or_default xs (i - 1) e d (omega (arith, within))) one in
        let back = subst (Before (get_or xs (i - 1) d)) (get_or_default xs i f d within) front in
        subst (λ (v : ℕ). Before (get_or xs v d) (get_or xs (k + 1) d)) (sym h) (subst (λ (v : ℕ). Before (get_or xs (i - 1) d) (get_or xs v d)) (sym g) back)
