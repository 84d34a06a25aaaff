-- What is kept at the nodes of a table.
use Rattle.std.specs.Prelude.{◌≡◌, ℕ, ◌+◌, List, [], ◌∷◌, ◌++◌, replicate, length, slice_get, Some, None, IsSomeAnd}
use Rattle.itpg_base.specs.declared.touch.Touch.{Touch}
use Rattle.label_scope.specs.declared.footprint.Footprint.{Footprint}
use Rattle.label_scope.specs.Touching.{Meets}
use Rattle.label_scope.specs.Members.{Member}
use Rattle.relation_rows.specs.declared.rows.Row.{Row}
use Rattle.plan_cache.specs.Nodes.{PlanNode, Kept}

-- how many rows are kept at one node, and at all of them
abbrev pub rows_in : Kept → ℕ
rows_in None = 0
rows_in (Some rows) = length rows

abbrev pub rows_kept : List Kept → ℕ
rows_kept [] = 0
rows_kept (k ∷ rest) = rows_in k + rows_kept rest

-- behind the others come places at which nothing is kept
abbrev pub AddsFree : List Kept → List Kept → Type 0
AddsFree old new = (more : ℕ) × (new ≡ old ++ replicate more None)

-- each kept relation is one that is right for its node's member
abbrev pub AllKept : (Member → List Row → Type 0) → List PlanNode → List Kept → Type 0
AllKept Right nodes kept = (k : ℕ) (rows : List Row) → slice_get kept k ≡ Some (Some rows) → IsSomeAnd (slice_get nodes k) (λ n. Right n.member rows)

-- what was kept at a number is kept there still
abbrev pub Stays : List Kept → List Kept → Type 0
Stays old new = (k : ℕ) (rows : List Row) → slice_get old k ≡ Some (Some rows) → slice_get new k ≡ Some (Some rows)

-- at a place that the touch meets nothing is kept any more, and at each other what was kept
pub record ForgetsAt (touch : Touch) (foot : Footprint) (old new : Kept) : Type 0 where
  pub gone : Meets foot touch → new ≡ None
  pub stays : ¬ Meets foot touch → new ≡ old

-- so at each place
abbrev pub Forgets : Touch → List Footprint → List Kept → List Kept → Type 0
Forgets touch [] [] [] = Unit {0}
Forgets touch [] [] (k ∷ new) = ⊥
Forgets touch [] (o ∷ old) new = ⊥
Forgets touch (f ∷ feet) [] new = ⊥
Forgets touch (f ∷ feet) (o ∷ old) [] = ⊥
Forgets touch (f ∷ feet) (o ∷ old) (k ∷ new) = ForgetsAt touch f o k × Forgets touch feet old new
