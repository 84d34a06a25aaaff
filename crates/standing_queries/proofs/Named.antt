-- Lists in which no two elements have one name.
use Rattle.std.proofs.Common.{◌≡◌, ◌≢◌, inl, inr, ⊎_elim, ℕ, zero, suc, List, [], ◌∷◌, ◌++◌, Some, refl, sym, ◌∙◌, ap}
use Rattle.std.specs.Prelude.{slice_get}
use Rattle.itpg_base.specs.Words.{Word}
use Rattle.itpg_base.specs.Lists.{Among, Ordered}
use Rattle.itpg_base.proofs.Lists.{append_ordered}
use Rattle.itpg_base.proofs.Objects.{same_some}

-- what stands at a place is in the list, and what is in the list stands at a place
pub get_among : {X : Type 0} (xs : List X) (i : ℕ) (x : X) → slice_get xs i ≡ Some x → Among xs x
get_among [] i x e = let no : ⊥ = cc in absurd no
get_among (y ∷ ys) zero x e = inl (cc)
get_among (y ∷ ys) (suc i) x e = inr (get_among ys i x e)

pub place_among : {X : Type 0} (xs : List X) (x : X) → Among xs x → (i : ℕ) × (slice_get xs i ≡ Some x)
place_among [] x a = absurd a
place_among (y ∷ xs) x (inl e) = (zero, ap Some e)
place_among (y ∷ xs) x (inr a) = let r = place_among xs x a in (suc r.0, r.1)

module _ {X : Type 0} (name_of : X → Word) where
  -- two elements of one name are one
  pub one_named : (xs : List X) (x y : X) → Ordered (λ v w. name_of v ≢ name_of w) xs → Among xs x → Among xs y → name_of x ≡ name_of y → x ≡ y
  one_named [] x y o a b e = absurd a
  one_named (z ∷ xs) x y o (inl a) (inl b) e = sym a ∙ b
  one_named (z ∷ xs) x y o (inl a) (inr b) e = absurd (o.0 y b (ap name_of a ∙ e))
  one_named (z ∷ xs) x y o (inr a) (inl b) e = absurd (o.0 x a (ap name_of b ∙ sym e))
  one_named (z ∷ xs) x y o (inr a) (inr b) e = one_named xs x y o.1 a b e

  -- and a name is at one place
  pub one_place : (xs : List X) (i j : ℕ) (x y : X) → Ordered (λ v w. name_of v ≢ name_of w) xs → slice_get xs i ≡ Some x → slice_get xs j ≡ Some y → name_of x ≡ name_of y → i ≡ j
  one_place [] i j x y o a b e = absurd (let no : ⊥ = cc in no)
  one_place (z ∷ xs) zero zero x y o a b e = refl
  one_place (z ∷ xs) zero (suc j) x y o a b e = absurd (o.0 y (get_among xs j y b) (ap name_of (same_some z x (Some z) refl a) ∙ e))
  one_place (z ∷ xs) (suc i) zero x y o a b e = absurd (o.0 x (get_among xs i x a) (ap name_of (same_some z y (Some z) refl b) ∙ sym e))
  one_place (z ∷ xs) (suc i) (suc j) x y o a b e = ap suc (one_place xs i j x y o.1 a b e)

  -- one more, whose name is free
  pub more_ordered : (xs : List X) (x : X) → Ordered (λ v w. name_of v ≢ name_of w) xs → ((y : X) → Among xs y → name_of y ≡ name_of x → ⊥) → Ordered (λ v w. name_of v ≢ name_of w) (xs ++ x ∷ [])
  more_ordered xs x o free = append_ordered (λ v w. name_of v ≢ name_of w) xs (x ∷ []) o ((λ y a. absurd a), tt)
      (λ y z a b. ⊎_elim (λ (e : x ≡ z). λ (same : name_of y ≡ name_of z). free y a (same ∙ ap name_of (sym e))) (λ no. absurd no) b)
