-- Where a test stops to hold, found in a front part of a list.
use Rattle.std.proofs.Common.{◌≡◌, ⊎_elim, ℕ, ◌≤◌, ◌<◌, Bool, true, false, List, length, get_or, take, sym, ◌∙◌, ap, arith}
use Rattle.std.proofs.lemmas.Bool.{cases_Bool}
use Rattle.std.proofs.lemmas.List.{get_or-take, length-take-le}
use Rattle.std.specs.List.Sorted.{IsPartitionedBy, IsPartitionPoint}

-- of a list in which no element that passes comes after one that fails, so it is of each front part
pub front_partitioned : {X : Type 0} (p : X → Bool) (xs : List X) (m : ℕ) → m ≤ length xs → IsPartitionedBy p xs → IsPartitionedBy p (take m xs)
front_partitioned p xs m le parted i j d ij lt e =
    let size = length-take-le m xs le in
    let i_in : i < m = omega arith in
    let j_in : j < m = omega arith in
    ap p (get_or-take m xs i d i_in) ∙ parted i j d ij (omega arith) (ap p (sym (get_or-take m xs j d j_in)) ∙ e)

-- an element behind one that fails, fails
pub fails_behind : {X : Type 0} (p : X → Bool) (xs : List X) (m k : ℕ) (d : X) → IsPartitionedBy p xs → m ≤ k → k < length xs → p (get_or xs m d) ≡ false → p (get_or xs k d) ≡ false
fails_behind p xs m k d parted le lt fails =
    ⊎_elim (λ (e : p (get_or xs k d) ≡ true). absurd (let t = parted m k d le lt e in cc)) (λ (e : p (get_or xs k d) ≡ false). e) (cases_Bool (p (get_or xs k d)))

-- the point of a front part, if it isn't at its end, is that of the list
pub point_of_front : {X : Type 0} (p : X → Bool) (xs : List X) (m i : ℕ) → m ≤ length xs → IsPartitionedBy p xs → i < length (take m xs)
    → IsPartitionPoint (λ y. p y ≡ true) (λ y. p y ≡ false) (take m xs) i → IsPartitionPoint (λ y. p y ≡ true) (λ y. p y ≡ false) xs i
point_of_front p xs m i le parted lt point =
    let size = length-take-le m xs le in
    let inside : i < m = omega arith in (
      λ k d low high. let front : k < m = omega arith in ap p (sym (get_or-take m xs k d front)) ∙ point.0 k d low high,
      λ k d low high. fails_behind p xs i k d parted low high (ap p (sym (get_or-take m xs i d inside)) ∙ point.1 i d (omega arith) (omega arith)),
    )
