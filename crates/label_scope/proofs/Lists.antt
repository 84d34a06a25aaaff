-- What a list contains, element by element.
use Rattle.std.proofs.Common.{◌≡◌, ℕ, zero, suc, ◌+◌, ◌<◌, List, [], ◌∷◌, ◌⊎◌, inl, inr, ⊎_elim, length, get_or, take, refl, sym, subst, ◌∙◌, arith}
use Rattle.std.specs.Prelude.{Contains}
use Rattle.std.proofs.lemmas.Bool.Decides.{eqb_tells}
use Rattle.std.proofs.lemmas.List.{length-take, get_or-take, get_or_default}

pub nothing : {X : Type 0} (x : X) → Contains [] x → ⊥
nothing x h = let below = h.1 in omega arith

pub first : {X : Type 0} (x : X) (xs : List X) → Contains (x ∷ xs) x
first x xs = (0, omega arith, refl)

pub more : {X : Type 0} (x y : X) (xs : List X) → Contains xs x → Contains (y ∷ xs) x
more x y xs h = (suc h.0, (let below = h.1 in omega arith), h.2)

pub first_or_more : {X : Type 0} (x y : X) (xs : List X) → Contains (y ∷ xs) x → (y ≡ x) ⊎ Contains xs x
first_or_more x y xs (zero, below, is) = inl is
first_or_more x y xs (suc k, below, is) = inr (k, omega (arith, below), is)

-- what is among the first ones and one more is among the first ones, or is that one
pub first_ones_or_next : {X : Type 0} (xs : List X) (i : ℕ) (d x : X) → i < length xs → d ≡ get_or xs i d → Contains (take (i + 1) xs) x → Contains (take i xs) x ⊎ (d ≡ x)
first_ones_or_next xs i d x lt is (k, below, at) =
    let near : k < i + 1 = omega (arith, below, length-take (i + 1) xs) in
    let here = sym (get_or-take (i + 1) xs k x near) ∙ at in
    elim (eqb_tells k i) [
      | inl e ↦ inr (is ∙ get_or_default xs i d x lt ∙ subst (λ (v : ℕ). get_or xs v x ≡ x) e.1 here)
      | inr n ↦ (
          let before : k < i = (let ne = n.1 in omega arith) in
          inl (k, omega (arith, before, length-take i xs), get_or-take i xs k x before ∙ here)
          )
    ]

-- a list without a second element contains nothing else
pub same_one : {X : Type 0} (xs : List X) (x y : X) → length xs < 2 → Contains xs x → Contains xs y → x ≡ y
same_one [] x y few a b = absurd (nothing x a)
same_one (z ∷ []) x y few a b =
    ⊎_elim (λ e. ⊎_elim (λ f. sym e ∙ f) (λ none. absurd (nothing y none)) (first_or_more y z [] b)) (λ none. absurd (nothing x none)) (first_or_more x z [] a)
same_one (z ∷ w ∷ rest) x y few a b = absurd (omega (arith, few))
