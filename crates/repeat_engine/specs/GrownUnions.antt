-- The union of the powers 0 to k, kept with what is new in it.
use Rattle.std.specs.Prelude.{◌≡◌, ℕ, ◌<◌, ◌≤◌, false, Option, Some, None, IfSome, IsTrue, MatchOption, ◌+◌}
use Rattle.repeat_engine.specs.declared.grown_union.Fresh.{Fresh}
use Rattle.repeat_engine.specs.declared.grown_union.Grown.{Grown}
use Rattle.repeat_engine.specs.Powers.{Algebra, union_of_powers}
use Rattle.repeat_engine.specs.Composed.{Includes}

module _ {M : Type 0} (Alike : M → M → Type 0) (algebra : Algebra M) (x : M) where
  open algebra use {one, compose, unite}

  -- together with the union of some fewer powers it makes that of the powers 0 to k
  pub record IsNewest (k : ℕ) (d : M) : Type 0 where
    pub fewer : ℕ
    pub below : fewer < k
    pub makes : Alike (unite (union_of_powers algebra x fewer) d) (union_of_powers algebra x k)

  -- the union of some fewer powers includes it
  pub record IsFormer (k : ℕ) (w : M) : Type 0 where
    pub fewer : ℕ
    pub below : fewer < k
    pub within : Includes Alike algebra (union_of_powers algebra x fewer) w

  module _ {V : Type 0} (means : V → M) where
    -- it is new in the union of the powers 0 to k
    pub record IsFresh (k : ℕ) (f : Fresh V) : Type 0 where
      pub newest : IsNewest k (means f.newest)
      pub former : IfSome f.former (λ w. IsFormer k (means w))

    -- it is the union of the powers 0 to k: either no further power adds anything, or it knows what is new
    pub record Grows (k : ℕ) (g : Grown V) : Type 0 where
      pub is : Alike (means g.all) (union_of_powers algebra x k)
      pub newest : g.done ≡ false → IfSome g.newest (λ d. IsNewest k (means d))
      pub former : g.done ≡ false → IfSome g.former (λ w. IsFormer k (means w))
      pub stays : IsTrue g.done → (n : ℕ) → k ≤ n → Alike (union_of_powers algebra x n) (union_of_powers algebra x k)

    -- and there may be more
    pub record GrowsOn (k : ℕ) (g : Grown V) : Type 0 where
      pub some : 1 ≤ k
      pub grows : Grows k g
      pub more : g.done ≡ false

-- what is new in it
abbrev pub newest_or : {V : Type 0} → Option V → V → V
newest_or (Some d) all = d
newest_or None all = all

abbrev pub newest_part : {V : Type 0} → Grown V → V
newest_part g = newest_or g.newest g.all

-- what it keeps is c's own and fits
pub record IsSound {M V : Type 0} (Own Fits : M → Type 0) (means : V → M) (g : Grown V) : Type 0 where
  pub own_all : Own (means g.all)
  pub fits_all : Fits (means g.all)
  pub own_newest : IfSome g.newest (λ d. Own (means d))
  pub fits_newest : IfSome g.newest (λ d. Fits (means d))
  pub own_former : IfSome g.former (λ w. Own (means w))
  pub fits_former : IfSome g.former (λ w. Fits (means w))

pub record IsFreshSound {M V : Type 0} (Own Fits : M → Type 0) (means : V → M) (f : Fresh V) : Type 0 where
  pub own_newest : Own (means f.newest)
  pub fits_newest : Fits (means f.newest)
  pub own_former : IfSome f.former (λ w. Own (means w))
  pub fits_former : IfSome f.former (λ w. Fits (means w))

-- after so many single steps, the last union that was made, if any
abbrev pub IsLatestStep : {M V : Type 0} → (M → M → Type 0) → Algebra M → M → (M → Type 0) → (M → Type 0) → (V → M) → ℕ → ℕ → Option (Grown V) → Type 0
IsLatestStep Alike algebra x Own Fits means k i last = MatchOption last (i ≡ 0) (λ g. IsSound Own Fits means g × GrowsOn Alike algebra x means (k + i) g)

-- of whatever it is the union of powers, and of however many, where there may be more
module _ {M V : Type 0} (Alike : M → M → Type 0) (Own : M → Type 0) (algebra : Algebra M) (means : V → M) where
  abbrev pub OfEach : Grown V → (M → ℕ → Type 0) → Type 0
  OfEach g Fact = (x : M) → Own x → (k : ℕ) → GrowsOn Alike algebra x means k g → Fact x k
