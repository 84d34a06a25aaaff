-- A walk between few points has a short one with the same ends.
use Rattle.std.proofs.Common.{◌≡◌, ℕ, suc, ◌<◌, ◌≤◌, List, [], ◌∷◌, length, map, Bool, true, false, ◌||◌, ◌⊎◌, inl, inr, refl, sym, ap, subst, arith, eqb}
use Rattle.std.specs.List.{IsDistinct, AllByRecursion, list_any}
use Rattle.std.proofs.lemmas.Map.Steps.{length-le_from_distinct_below}
use Rattle.std.proofs.lemmas.Bool.Decides.{eqb_tells}
use Rattle.itpg_base.specs.Walks.{IsWalk, AreFewer}

length_numbers : {P : Type 0} (number : P → ℕ) (xs : List P) → length (map number xs) ≡ length xs
length_numbers number [] = refl
length_numbers number (x ∷ xs) = ap suc (length_numbers number xs)

below_all : (count : ℕ) (ks : List ℕ) → AllByRecursion (λ k. k < count) ks → (q : ℕ) → list_any (eqb q) ks ≡ true → q < count
below_all count [] all q h = absurd (let never : ⊥ = cc in never)
below_all count (k ∷ ks) all q h =
    elim (eqb_tells q k) [
      | inl equal ↦ subst (λ (i : ℕ). i < count) (sym equal.1) all.0
      | inr other ↦ below_all count ks all.1 q (subst (λ (b : Bool). (b || list_any (eqb q) ks) ≡ true) other.0 h)
    ]

module _ {P : Type 0} {count : ℕ} {Inside : P → Type 0} {number : P → ℕ} (few : AreFewer count Inside number) (R : P → P → Type 0) (ends : (x y : P) → R x y → Inside y) where
  abbrev numbers : List P → List ℕ
  numbers xs = map number xs

  -- a walk that comes to no point twice
  record IsSimple (x : P) (points : List P) (y : P) : Type 0 where
    walk : IsWalk R x points y
    apart : IsDistinct eqb (numbers (x ∷ points))

  -- one that starts at the point inside of this number
  record From (k : ℕ) (y : P) : Type 0 where
    start : P
    inside : Inside start
    is : number start ≡ k
    points : List P
    simple : IsSimple start points y

  abbrev Misses : ℕ → List P → Type 0
  Misses k xs = AllByRecursion (λ i. eqb k i ≡ false) (numbers xs)

  cut_at : (k : ℕ) (y x : P) (zs : List P) → Inside x → IsWalk R x zs y → IsDistinct eqb (numbers (x ∷ zs)) → From k y ⊎ Misses k (x ∷ zs)
  unfolding IsDistinct
  cut_at k y x [] inside walk apart =
      elim (eqb_tells k (number x)) [
        | inl equal ↦ inl (record { start = x; inside = inside; is = sym equal.1; points = []; simple = record { walk = walk; apart = apart } })
        | inr other ↦ inr (other.0, tt)
      ]
  cut_at k y x (z ∷ zs) inside walk apart =
      let later : From k y ⊎ Misses k (z ∷ zs) = cut_at k y z zs (ends x z walk.0) walk.1 apart.1 in
      elim (eqb_tells k (number x)) [
        | inl equal ↦ inl (record { start = x; inside = inside; is = sym equal.1; points = z ∷ zs; simple = record { walk = walk; apart = apart } })
        | inr other ↦ elim later [ inl from ↦ inl from | inr misses ↦ inr (other.0, misses) ]
      ]

  simple_walk : (x : P) (zs : List P) (y : P) → Inside x → IsWalk R x zs y → (points : List P) × IsSimple x points y
  unfolding IsDistinct
  simple_walk x [] y inside walk = ([], record { walk = walk; apart = (tt, tt) })
  simple_walk x (z ∷ zs) y inside walk =
      let inside_z : Inside z = ends x z walk.0 in
      let rest = simple_walk z zs y inside_z walk.1 in
      elim (cut_at (number x) y z rest.0 inside_z rest.1.walk rest.1.apart) [
        | inl from ↦ subst (λ (v : P). (points : List P) × IsSimple v points y) (few.apart from.start x from.inside inside from.is) (from.points, from.simple)
        | inr misses ↦ (z ∷ rest.0, record { walk = (walk.0, rest.1.walk); apart = (misses, rest.1.apart) })
      ]

  numbers_below : (x : P) (zs : List P) (y : P) → Inside x → IsWalk R x zs y → AllByRecursion (λ k. k < count) (numbers (x ∷ zs))
  numbers_below x [] y inside walk = (few.below x inside, tt)
  numbers_below x (z ∷ zs) y inside walk = (few.below x inside, numbers_below z zs y (ends x z walk.0) walk.1)

  simple_is_short : (x : P) (points : List P) (y : P) → Inside x → IsSimple x points y → length points < count
  simple_is_short x points y inside simple =
      let most : length (numbers (x ∷ points)) ≤ count =
      length-le_from_distinct_below (numbers (x ∷ points)) count simple.apart
      (below_all count (numbers (x ∷ points)) (numbers_below x points y inside simple.walk)) in
      omega (arith, most, length_numbers number (x ∷ points))

  pub short_walk : (x : P) (zs : List P) (y : P) → Inside x → IsWalk R x zs y → (points : List P) × (length points < count) × IsWalk R x points y
  short_walk x zs y inside walk =
      let s = simple_walk x zs y inside walk in (s.0, simple_is_short x s.0 y inside s.1, s.1.walk)
