-- Lists of what has a name, and what the plain machine has of them.
use Rattle.std.proofs.Common.{◌≡◌, ◌≢◌, ◌⊎◌, inl, inr, ⊎_elim, ℕ, zero, suc, Bool, true, false, List, [], ◌∷◌, length, map, Some, refl, sym, ap, subst}
use Rattle.std.specs.Prelude.{slice_get, option_map, if◌then◌else◌, IsSomeAnd}
use Rattle.itpg_base.specs.Words.{Word}
use Rattle.itpg_base.specs.Lists.{Among, Ordered}
use Rattle.itpg_base.proofs.Objects.{same_some}
use Rattle.standing_queries.proofs.Watching.{same_names}
use Rattle.itpg_session.specs.Named.{without_named}

-- ---- a list, and what is made of each of its elements

module _ {A B : Type 0} (f : A → B) where
  pub map_length : (xs : List A) → length (map f xs) ≡ length xs
  map_length [] = refl
  map_length (x ∷ xs) = ap suc (map_length xs)

  -- one more in front, or not
  pub map_choice : (b : Bool) (x : A) (xs : List A) (ys : List B) → map f xs ≡ ys → map f (if b then xs else x ∷ xs) ≡ (if b then ys else f x ∷ ys)
  map_choice true x xs ys e = e
  map_choice false x xs ys e = ap (λ (vs : List B). f x ∷ vs) e

  pub map_at : (xs : List A) (i : ℕ) (x : A) → slice_get xs i ≡ Some x → slice_get (map f xs) i ≡ Some (f x)
  map_at [] i x e = let no : ⊥ = cc in absurd no
  map_at (y ∷ xs) zero x e = ap (option_map f) e
  map_at (y ∷ xs) (suc i) x e = map_at xs i x e

  pub at_map : (xs : List A) (i : ℕ) (y : B) → slice_get (map f xs) i ≡ Some y → (x : A) × (slice_get xs i ≡ Some x) × (f x ≡ y)
  at_map [] i y e = let no : ⊥ = cc in absurd no
  at_map (x ∷ xs) zero y e = (x, refl, same_some (f x) y (Some (f x)) refl e)
  at_map (x ∷ xs) (suc i) y e = at_map xs i y e

  pub map_among : (xs : List A) (x : A) → Among xs x → Among (map f xs) (f x)
  map_among [] x a = absurd a
  map_among (y ∷ xs) x (inl e) = inl (ap f e)
  map_among (y ∷ xs) x (inr a) = inr (map_among xs x a)

  pub among_map : (xs : List A) (y : B) → Among (map f xs) y → (x : A) × Among xs x × (f x ≡ y)
  among_map [] y a = absurd a
  among_map (x ∷ xs) y (inl e) = (x, inl refl, e)
  among_map (x ∷ xs) y (inr a) = let r = among_map xs y a in (r.0, inr r.1, r.2)

-- the element at a place, of which this holds
pub found_at : {A : Type 0} (P : A → Type 0) (xs : List A) (i : ℕ) → IsSomeAnd (slice_get xs i) P → (x : A) × Among xs x × (slice_get xs i ≡ Some x) × P x
found_at P [] i h = absurd h
found_at P (x ∷ xs) zero h = (x, inl refl, refl, h)
found_at P (x ∷ xs) (suc i) h = let r = found_at P xs i h in (r.0, inr r.1, r.2, r.3)

-- ---- one less

module _ {X : Type 0} (name_of : X → Word) (name : Word) where
  one_less : (x : X) (xs : List X) → (without_named name_of name (x ∷ xs) ≡ without_named name_of name xs) ⊎ (without_named name_of name (x ∷ xs) ≡ x ∷ without_named name_of name xs)
  one_less x xs = elim (same_names (name_of x) name) [
    | inl h ↦ inl (rw h.0 refl)
    | inr h ↦ inr (rw h.0 refl)
  ]

  -- what is left was there
  pub left_among : (xs : List X) (x : X) → Among (without_named name_of name xs) x → Among xs x
  left_among [] x a = a
  left_among (y ∷ xs) x a = elim (one_less y xs) [
    | inl same ↦ inr (left_among xs x (subst (λ (v : List X). Among v x) same a))
    | inr front ↦ ⊎_elim (λ e. inl e) (λ b. inr (left_among xs x b)) (subst (λ (v : List X). Among v x) front a)
  ]

  pub left_ordered : (xs : List X) → Ordered (λ v w. name_of v ≢ name_of w) xs → Ordered (λ v w. name_of v ≢ name_of w) (without_named name_of name xs)
  left_ordered [] o = tt
  left_ordered (y ∷ xs) o = elim (one_less y xs) [
    | inl same ↦ subst (λ (v : List X). Ordered (λ v w. name_of v ≢ name_of w) v) (sym same) (left_ordered xs o.1)
    | inr front ↦ subst (λ (v : List X). Ordered (λ v w. name_of v ≢ name_of w) v) (sym front) ((λ z a. o.0 z (left_among xs z a)), left_ordered xs o.1)
  ]
