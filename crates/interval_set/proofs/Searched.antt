-- What a binary search says of the parts of a list before and after its place.
use Rattle.std.proofs.Common.{◌≡◌, ℕ, ◌+◌, ◌-◌, ◌≤◌, ◌<◌, Bool, true, false, List, [], ◌∷◌, length, get_or, take, drop, All, map, subst, arith}
use Rattle.std.proofs.lemmas.List.{length-take, length-drop, length-map, get_or-take, get_or-drop, get_or-map}
use Rattle.std.specs.List.Sorted.{IsPartitionPoint}

-- the item of a list at a place within it
item_at : {X : Type 0} (xs : List X) (k : ℕ) → k < length xs → X
item_at [] k lt = absurd (omega arith)
item_at (x ∷ xs) k lt = x

module _ {X Y : Type 0} (f : X → Y) (p : Y → Bool) (xs : List X) (n : ℕ) (within : n ≤ length xs) (point : IsPartitionPoint (λ x. p (f x) ≡ true) (λ x. p (f x) ≡ false) xs n) where
  pub passed : (P : Y → Type 0) → ((y : Y) → p y ≡ true → P y) → All P (take n (map f xs))
  passed P of k d lt =
      let below : k < n = omega (arith, length-take n (map f xs)) in
      let inside : k < length xs = omega arith in
      let x = item_at xs k inside in
      rw (get_or-take n (map f xs) k d below, get_or-map f xs k x d inside) (of (f (get_or xs k x)) (point.0 k x (omega arith) below))

  pub failed : (P : Y → Type 0) → ((y : Y) → p y ≡ false → P y) → All P (drop n (map f xs))
  failed P of k d lt =
      let inside : n + k < length xs = omega (arith, length-drop n (map f xs), length-map xs f) in
      let x = item_at xs (n + k) inside in
      rw (get_or-drop n (map f xs) k d, get_or-map f xs (n + k) x d inside) (of (f (get_or xs (n + k) x)) (point.1 (n + k) x (omega arith) inside))

-- what holds of each item of a part of a list, at its place in the whole
pub at_take : {X : Type 0} (P : X → Type 0) (xs : List X) (n k : ℕ) (d : X) → All P (take n xs) → k < n → k < length xs → P (get_or xs k d)
at_take P xs n k d all below within =
    subst P (get_or-take n xs k d below) (all k d (omega (arith, length-take n xs)))

pub at_drop : {X : Type 0} (P : X → Type 0) (xs : List X) (n k : ℕ) (d : X) → All P (drop n xs) → n ≤ k → k < length xs → P (get_or xs k d)
at_drop P xs n k d all above within =
    let same : n + (k - n) ≡ k = omega arith in
    subst (λ (i : ℕ). P (get_or xs i d)) same (subst P (get_or-drop n xs (k - n) d) (all (k - n) d (omega (arith, length-drop n xs))))

-- both of the middle part
pub at_middle : {X : Type 0} (P : X → Type 0) (xs : List X) (first last : ℕ) → ((k : ℕ) (d : X) → first ≤ k → k < last → k < length xs → P (get_or xs k d)) → All P (take (last - first) (drop first xs))
at_middle P xs first last all k d lt =
    let below : k < last - first = omega (arith, length-take (last - first) (drop first xs)) in
    let within : first + k < length xs = omega (arith, length-take (last - first) (drop first xs), length-drop first xs) in
    rw (get_or-take (last - first) (drop first xs) k d below, get_or-drop first xs k d) (all (first + k) d (omega arith) (omega arith) within)
