-- Two lists side by side.
use Rattle.std.proofs.Common.{◌≡◌, ℕ, zero, suc, ◌<◌, List, [], ◌∷◌, ◌++◌, map, length, set, Some, inl, inr, refl, ap, arith}
use Rattle.std.specs.Prelude.{slice_get}
use Rattle.std.specs.List.{zip, remove}
use Rattle.itpg_base.specs.Lists.{Among}

-- what stands at a place within a list
pub got : {A : Type 0} (xs : List A) (i : ℕ) → i < length xs → (x : A) × (slice_get xs i ≡ Some x)
got [] i lt = absurd (omega (arith, lt))
got (x ∷ xs) zero lt = (x, refl)
got (x ∷ xs) (suc i) lt = got xs i (omega (arith, lt))

module _ {A B : Type 0} where
  pub zip_get : (xs : List A) (ys : List B) (i : ℕ) (x : A) (y : B) → slice_get xs i ≡ Some x → slice_get ys i ≡ Some y → slice_get (zip xs ys) i ≡ Some (x, y)
  zip_get [] ys i x y e d = let none : ⊥ = cc in absurd none
  zip_get (a ∷ xs) [] i x y e d = let none : ⊥ = cc in absurd none
  zip_get (a ∷ xs) (b ∷ ys) zero x y e d =
      let first : a ≡ x = cc in
      let second : b ≡ y = cc in
      rw (first, second) refl
  zip_get (a ∷ xs) (b ∷ ys) (suc i) x y e d = zip_get xs ys i x y e d

  pub zip_length : (xs : List A) (ys : List B) → length xs ≡ length ys → length (zip xs ys) ≡ length ys
  zip_length [] [] l = refl
  zip_length [] (b ∷ ys) l = absurd (omega (arith, l))
  zip_length (a ∷ xs) [] l = refl
  zip_length (a ∷ xs) (b ∷ ys) l = ap suc (zip_length xs ys (omega (arith, l)))

  pub zip_remove : (xs : List A) (ys : List B) (i : ℕ) → length xs ≡ length ys → zip (remove xs i) (remove ys i) ≡ remove (zip xs ys) i
  zip_remove [] [] zero l = refl
  zip_remove [] [] (suc i) l = refl
  zip_remove [] (b ∷ ys) i l = absurd (omega (arith, l))
  zip_remove (a ∷ xs) [] i l = absurd (omega (arith, l))
  zip_remove (a ∷ xs) (b ∷ ys) zero l = refl
  zip_remove (a ∷ xs) (b ∷ ys) (suc i) l = ap (λ (zs : List (A × B)). (a, b) ∷ zs) (zip_remove xs ys i (omega (arith, l)))

  pub zip_set : (xs : List A) (ys : List B) (i : ℕ) (x : A) (z : B) → slice_get xs i ≡ Some x → zip xs (set ys i z) ≡ set (zip xs ys) i (x, z)
  zip_set [] ys i x z e = let none : ⊥ = cc in absurd none
  zip_set (a ∷ xs) [] i x z e = refl
  zip_set (a ∷ xs) (b ∷ ys) zero x z e = let same : a ≡ x = cc in ap (λ (v : A). (v, z) ∷ zip xs ys) same
  zip_set (a ∷ xs) (b ∷ ys) (suc i) x z e = ap (λ (zs : List (A × B)). (a, b) ∷ zs) (zip_set xs ys i x z e)

  pub zip_push : (xs : List A) (ys : List B) (x : A) (y : B) → length xs ≡ length ys → zip (xs ++ x ∷ []) (ys ++ y ∷ []) ≡ zip xs ys ++ (x, y) ∷ []
  zip_push [] [] x y l = refl
  zip_push [] (b ∷ ys) x y l = absurd (omega (arith, l))
  zip_push (a ∷ xs) [] x y l = absurd (omega (arith, l))
  zip_push (a ∷ xs) (b ∷ ys) x y l = ap (λ (zs : List (A × B)). (a, b) ∷ zs) (zip_push xs ys x y (omega (arith, l)))

  -- the second of each pair is in the second list
  pub zip_second : (xs : List A) (ys : List B) (p : A × B) → Among (zip xs ys) p → Among ys p.1
  zip_second [] ys p a = absurd a
  zip_second (x ∷ xs) [] p a = absurd a
  zip_second (x ∷ xs) (y ∷ ys) p (inl e) = inl (ap (λ (v : A × B). v.1) e)
  zip_second (x ∷ xs) (y ∷ ys) p (inr a) = inr (zip_second xs ys p a)

  -- and each of the first list is the first of a pair
  pub zip_among : (xs : List A) (ys : List B) (x : A) → length xs ≡ length ys → Among xs x → (y : B) × Among (zip xs ys) (x, y)
  zip_among [] ys x l a = absurd a
  zip_among (a ∷ xs) [] x l h = absurd (omega (arith, l))
  zip_among (a ∷ xs) (b ∷ ys) x l (inl e) = (b, inl (ap (λ (v : A). (v, b)) e))
  zip_among (a ∷ xs) (b ∷ ys) x l (inr h) = let w = zip_among xs ys x (omega (arith, l)) h in (w.0, inr w.1)

  -- what is said of the first of each pair alone is said of the first list
  pub zip_first : {C : Type 0} (of_pair : A × B → C) (of_first : A → C) → ((p : A × B) → of_pair p ≡ of_first p.0) → (xs : List A) (ys : List B) → length xs ≡ length ys → map of_first xs ≡ map of_pair (zip xs ys)
  zip_first of_pair of_first same [] [] l = refl
  zip_first of_pair of_first same [] (y ∷ ys) l = absurd (omega (arith, l))
  zip_first of_pair of_first same (x ∷ xs) [] l = absurd (omega (arith, l))
  zip_first of_pair of_first same (x ∷ xs) (y ∷ ys) l =
      let first = same (x, y) in
      let rest = zip_first of_pair of_first same xs ys (omega (arith, l)) in
      rw (first, rest) refl
