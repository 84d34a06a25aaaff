-- For the crate's own functions: what is made and kept while the nodes that are reached from one are worked out.
use Rattle.std.specs.Prelude.{◌≡◌, ℕ, ◌+◌, ◌<◌, ◌≤◌, ◌⊎◌, List, length, slice_get, slice_set, Some, None, IsSomeAnd}
use Rattle.relation_rows.specs.declared.rows.Row.{Row}
use Rattle.plan_cache.specs.Nodes.{PlanNode, Kept, Table}
use Rattle.plan_cache.specs.KeptRows.{rows_kept, AllKept, Stays}
use Rattle.plan_cache.specs.declared.shelf.TheConstants.{MAX_KEPT_ROWS}
use Rattle.path_eval.specs.declared.basis.Ground.{Ground}
use Rattle.plan_cache.specs.RightRows.{IsRight}
use Rattle.path_eval.specs.Evaluated.{NeedsWide}
use Rattle.path_eval.specs.Keeping.{IsReached, KeepsOnlyReached, KeptOrFull}
use Rattle.path_eval.specs.Made.{MaybeRows, IsMade, HasParts}

-- the rows are right for the node of this number
abbrev pub IsRightAt : Ground → List PlanNode → ℕ → List Row → Type 0
IsRightAt basis nodes k rows = IsSomeAnd (slice_get nodes k) (λ n. IsRight basis.graph.now basis.max_rows n.member rows)

-- some member that is worked out for the node of this number is wide
abbrev pub IsWideAt : Ground → List PlanNode → ℕ → Type 0
IsWideAt basis nodes k = IsSomeAnd (slice_get nodes k) (λ n. NeedsWide basis.graph.now basis.max_rows n.member)

-- the parts of the node of this number are made
abbrev pub HasPartsAt : Ground → List PlanNode → List MaybeRows → ℕ → Type 0
HasPartsAt basis nodes made k = IsSomeAnd (slice_get nodes k) (HasParts basis.graph.now basis.max_rows made)

-- each kept relation is right
abbrev pub KeepsRight : Ground → Table → Type 0
KeepsRight basis table = AllKept (IsRight basis.graph.now basis.max_rows) table.nodes table.kept

-- nothing changes, or rows that are right for the node are kept at it, where nothing was
abbrev pub KeepsAt : Ground → Table → ℕ → List Kept → Type 0
KeepsAt basis old k new =
    (new ≡ old.kept) ⊎ ((rows : List Row) × (slice_get old.kept k ≡ Some None) × (new ≡ slice_set old.kept k (Some rows)) × IsRightAt basis old.nodes k rows)

-- the rows are kept at the place, or there is no room for them
abbrev pub KeepsRows : List Kept → ℕ → List Row → Type 0
KeepsRows kept k rows = (slice_get kept k ≡ Some (Some rows)) ⊎ (MAX_KEPT_ROWS < rows_kept kept + length rows)

-- the nodes are as they were, all that is kept is right, and it is what was kept, with relations of nodes that were reached from n
pub record KeepsWell (basis : Ground) (old : Table) (n : ℕ) (new : Table) : Type 0 where
  pub nodes : new.nodes ≡ old.nodes
  pub right : KeepsRight basis new
  pub stays : Stays old.kept new.kept
  pub only : KeepsOnlyReached old n new.kept

-- besides, each node below k that was reached from n is made, and kept if there is room; from k on what is kept is as it was
pub record IsFilling (basis : Ground) (old : Table) (n k : ℕ) (now : Table) (made : List MaybeRows) : Type 0 where
  pub well : KeepsWell basis old n now
  pub many : length made ≡ k
  pub later : (j : ℕ) → k ≤ j → slice_get now.kept j ≡ slice_get old.kept j
  pub each : (j : ℕ) → j < k → IsReached old.nodes old.kept n j → IsSomeAnd (slice_get old.nodes j) (λ x. IsMade basis.graph.now basis.max_rows made j x.member)
  pub room : (j : ℕ) (x : PlanNode) → j < k → IsReached old.nodes old.kept n j → slice_get old.nodes j ≡ Some x → KeptOrFull basis.graph.now now.kept j x.member
