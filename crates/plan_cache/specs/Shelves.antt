-- For the crate's own functions: the places of a shelf.
use Rattle.std.specs.Prelude.{◌≡◌, ℕ, zero, suc, ◌+◌, ◌≤◌, ◌⊎◌, Bool, true, false, List, [], ◌∷◌, length, Option, Some, None}
use Rattle.itpg_base.specs.declared.touch.Touch.{Touch}
use Rattle.label_scope.specs.declared.footprint.Footprint.{Footprint}
use Rattle.label_scope.specs.Touching.{Meets}
use Rattle.plan_cache.specs.declared.shelf.TheConstants.{MAX_KEPT_ROWS}
use Rattle.plan_cache.specs.Nodes.{PlanNode, Kept}
use Rattle.plan_cache.specs.Footprints.{footprints_of}
use Rattle.plan_cache.specs.KeptRows.{ForgetsAt, rows_kept}

-- for each place what its relation can depend on, and its relation's rows, if they are kept
pub record Shelved : Type 0 where
  pub feet : List Footprint
  pub kept : List Kept

-- the place is to be cleared only where the touch meets its footprint, and is not where it doesn't or nothing is kept
pub record LosesAt (touch : Touch) (foot : Footprint) (kept : Option Kept) (clears : Bool) : Type 0 where
  pub only : clears ≡ true → Meets foot touch
  pub unless : clears ≡ false → (¬ Meets foot touch) ⊎ (kept ≡ Some None)

-- at the first places, so many, the touch is forgotten, and at the others all is as it was
abbrev pub ForgetsFirst : ℕ → Touch → List Footprint → List Kept → List Kept → Type 0
ForgetsFirst zero touch feet old new = new ≡ old
ForgetsFirst (suc n) touch [] [] [] = Unit {0}
ForgetsFirst (suc n) touch [] [] (k ∷ new) = ⊥
ForgetsFirst (suc n) touch [] (o ∷ old) new = ⊥
ForgetsFirst (suc n) touch (f ∷ feet) [] new = ⊥
ForgetsFirst (suc n) touch (f ∷ feet) (o ∷ old) [] = ⊥
ForgetsFirst (suc n) touch (f ∷ feet) (o ∷ old) (k ∷ new) = ForgetsAt touch f o k × ForgetsFirst n touch feet old new

-- how many relations are kept at one place, and at all of them
abbrev pub relations_in : Kept → ℕ
relations_in None = 0
relations_in (Some rows) = 1

abbrev pub relations_kept : List Kept → ℕ
relations_kept [] = 0
relations_kept (k ∷ rest) = relations_in k + relations_kept rest

-- a place for each footprint, few enough rows; these and the relations are counted
pub record IsShelf (feet : List Footprint) (kept : List Kept) (rows count : ℕ) : Type 0 where
  pub each : length kept ≡ length feet
  pub counted : rows ≡ rows_kept kept
  pub many : count ≡ relations_kept kept
  pub few : rows ≤ MAX_KEPT_ROWS

-- at the first places, so many, the touch is forgotten, and the rest is as it was
pub record IsForgetting (n : ℕ) (touch : Touch) (old new : Shelved) : Type 0 where
  pub feet : new.feet ≡ old.feet
  pub each : length new.kept ≡ length new.feet
  pub before : length old.kept ≡ length old.feet
  pub first : ForgetsFirst n touch old.feet old.kept new.kept

-- the shelf has a place with its footprint for each node
pub record AreShelved (nodes : List PlanNode) (shelved : Shelved) : Type 0 where
  pub feet : shelved.feet ≡ footprints_of nodes
  pub each : length shelved.kept ≡ length nodes
