-- Lists in which one element is changed, and what they are mapped to.
use Rattle.std.proofs.Common.{◌≡◌, ◌≢◌, ◌↔◌, ℕ, zero, suc, ◌<◌, ◌≤◌, List, [], ◌∷◌, ◌++◌, length, map, take, drop, Some, Bool, true, false, true≢false, refl, sym, ap, ◌∙◌, arith}
use Rattle.std.specs.Prelude.{slice_get, slice_set}
use Rattle.std.specs.List.{remove}
use Rattle.itpg_base.specs.Graphs.{changed_at}

module _ {X Y : Type 0} (f : X → Y) where
  -- what is at a place of the mapped list
  pub mapped_at : (xs : List X) (i : ℕ) (y : Y) → slice_get (map f xs) i ≡ Some y → (x : X) × (slice_get xs i ≡ Some x) × (y ≡ f x)
  mapped_at [] i y e = let none : ⊥ = cc in absurd none
  mapped_at (x ∷ xs) zero y e = (x, refl, let h : Some (f x) ≡ Some y = e in cc)
  mapped_at (x ∷ xs) (suc i) y e = mapped_at xs i y e

  pub at_mapped : (xs : List X) (i : ℕ) (x : X) → slice_get xs i ≡ Some x → slice_get (map f xs) i ≡ Some (f x)
  at_mapped [] i x e = let none : ⊥ = cc in absurd none
  at_mapped (y ∷ xs) zero x e = let h : Some y ≡ Some x = e in let same : y ≡ x = cc in ap (λ z. Some (f z)) same
  at_mapped (y ∷ xs) (suc i) x e = at_mapped xs i x e

  -- a place that is written in the one list is changed in the other
  pub map_changed : (xs : List X) (i : ℕ) (x new : X) (h : Y → Y) → slice_get xs i ≡ Some x → f new ≡ h (f x) → map f (slice_set xs i new) ≡ changed_at (map f xs) i h
  map_changed [] i x new h e same = let none : ⊥ = cc in absurd none
  map_changed (y ∷ xs) zero x new h e same =
      let g : Some y ≡ Some x = e in
      let is : y ≡ x = cc in
      ap (λ z. z ∷ map f xs) (same ∙ ap (λ z. h (f z)) (sym is))
  map_changed (y ∷ xs) (suc i) x new h e same = ap (λ ys. f y ∷ ys) (map_changed xs i x new h e same)

-- an element that is written in its place is changed there
pub set_changed : {X : Type 0} (xs : List X) (i : ℕ) (x new : X) (h : X → X) → slice_get xs i ≡ Some x → new ≡ h x → slice_set xs i new ≡ changed_at xs i h
set_changed [] i x new h e same = let none : ⊥ = cc in absurd none
set_changed (y ∷ xs) zero x new h e same =
    let g : Some y ≡ Some x = e in
    let is : y ≡ x = cc in
    ap (λ z. z ∷ xs) (same ∙ ap h (sym is))
set_changed (y ∷ xs) (suc i) x new h e same = ap (λ ys. y ∷ ys) (set_changed xs i x new h e same)

-- a change that leaves the element as it was
pub changed_same : {X : Type 0} (xs : List X) (i : ℕ) → changed_at xs i (λ x. x) ≡ xs
changed_same [] i = refl
changed_same (x ∷ xs) zero = refl
changed_same (x ∷ xs) (suc i) = ap (λ ys. x ∷ ys) (changed_same xs i)

-- two changes of one element that give the same
pub changed_alike : {X : Type 0} (xs : List X) (i : ℕ) (f h : X → X) (x : X) → slice_get xs i ≡ Some x → f x ≡ h x → changed_at xs i f ≡ changed_at xs i h
changed_alike [] i f h x e same = refl
changed_alike (y ∷ xs) zero f h x e same = let g : Some y ≡ Some x = e in let is : y ≡ x = cc in ap (λ z. z ∷ xs) (ap f is ∙ same ∙ ap h (sym is))
changed_alike (y ∷ xs) (suc i) f h x e same = ap (λ ys. y ∷ ys) (changed_alike xs i f h x e same)

-- a place within a list has an element
pub there_within : {X : Type 0} (xs : List X) (i : ℕ) → i < length xs → (x : X) × (slice_get xs i ≡ Some x)
there_within [] i lt = absurd (omega arith)
there_within (x ∷ xs) zero lt = (x, refl)
there_within (x ∷ xs) (suc i) lt = there_within xs i (omega arith)

pub past : {X : Type 0} (xs : List X) (i : ℕ) (x : X) → slice_get xs i ≡ Some x → length xs ≤ i → ⊥
past [] i x e le = let none : ⊥ = cc in none
past (y ∷ xs) zero x e le = omega arith
past (y ∷ xs) (suc i) x e le = past xs i x e (omega arith)

pub set_there : {X : Type 0} (xs : List X) (i : ℕ) (x new : X) → slice_get xs i ≡ Some x → slice_get (slice_set xs i new) i ≡ Some new
set_there [] i x new e = let none : ⊥ = cc in absurd none
set_there (y ∷ xs) zero x new e = refl
set_there (y ∷ xs) (suc i) x new e = set_there xs i x new e

-- a list around one of its places
pub split_at : {X : Type 0} (xs : List X) (i : ℕ) (x : X) → slice_get xs i ≡ Some x → xs ≡ take i xs ++ x ∷ drop (suc i) xs
split_at [] i x e = let none : ⊥ = cc in absurd none
split_at (y ∷ xs) zero x e = let h : Some y ≡ Some x = e in let is : y ≡ x = cc in ap (λ z. z ∷ xs) is
split_at (y ∷ xs) (suc i) x e = ap (λ zs. y ∷ zs) (split_at xs i x e)

pub split_set : {X : Type 0} (xs : List X) (i : ℕ) (x new : X) → slice_get xs i ≡ Some x → slice_set xs i new ≡ take i xs ++ new ∷ drop (suc i) xs
split_set [] i x new e = let none : ⊥ = cc in absurd none
split_set (y ∷ xs) zero x new e = refl
split_set (y ∷ xs) (suc i) x new e = ap (λ zs. y ∷ zs) (split_set xs i x new e)

pub split_removed : {X : Type 0} (xs : List X) (i : ℕ) (new : X) → remove (slice_set xs i new) i ≡ take i xs ++ drop (suc i) xs
split_removed [] zero new = refl
split_removed [] (suc i) new = refl
split_removed (y ∷ xs) zero new = refl
split_removed (y ∷ xs) (suc i) new = ap (λ zs. y ∷ zs) (split_removed xs i new)

-- a list is full where a test of emptiness fails
pub full_of : {X : Type 0} (xs : List X) (b : Bool) → (b ≡ true) ↔ (xs ≡ []) → b ≡ false → xs ≢ []
full_of xs b tells f none = true≢false (sym (tells.1 none) ∙ f)
