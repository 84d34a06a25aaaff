-- The relations that are kept when one node is worked out.
use Rattle.std.specs.Prelude.{◌≡◌, ℕ, ◌+◌, ◌<◌, ◌⊎◌, List, length, slice_get, Some, None}
use Rattle.itpg_base.specs.Graphs.{Graph}
use Rattle.itpg_base.specs.Walks.{IsWalk}
use Rattle.relation_rows.specs.declared.rows.Row.{Row}
use Rattle.relation_rows.specs.Rows.{NormalRows}
use Rattle.label_scope.specs.Members.{Member}
use Rattle.plan_cache.specs.Nodes.{PlanNode, Kept, Table}
use Rattle.plan_cache.specs.Growing.{IsChild}
use Rattle.plan_cache.specs.KeptRows.{rows_kept}
use Rattle.plan_cache.specs.declared.shelf.TheConstants.{MAX_KEPT_ROWS}
use Rattle.plan_cache.specs.RightRows.{member_relation}

-- nothing is kept at the node x, and y is a child of it
abbrev pub LeadsTo : List PlanNode → List Kept → ℕ → ℕ → Type 0
LeadsTo nodes kept x y = IsChild nodes x y × (slice_get kept x ≡ Some None)

-- a walk of such steps leads from the node n to k: the relation of k is needed for n
abbrev pub IsReached : List PlanNode → List Kept → ℕ → ℕ → Type 0
IsReached nodes kept n k = (zs : List ℕ) × IsWalk (LeadsTo nodes kept) n zs k

-- each kept relation was kept before, or it stands at a node that was reached from n
abbrev pub KeepsOnlyReached : Table → ℕ → List Kept → Type 0
KeepsOnlyReached table n new = (k : ℕ) (rows : List Row) → slice_get new k ≡ Some (Some rows) → (slice_get table.kept k ≡ Some (Some rows)) ⊎ IsReached table.nodes table.kept n k

-- a relation is kept at the place, or the normal rows of the member are too many to be kept beside the others
abbrev pub KeptOrFull : Graph → List Kept → ℕ → Member → Type 0
KeptOrFull g kept k m =
    ((rows : List Row) × (slice_get kept k ≡ Some (Some rows))) ⊎ ((rows : List Row) → NormalRows (member_relation g m) rows → MAX_KEPT_ROWS < rows_kept kept + length rows)

-- so it is with each node that was reached from n
abbrev pub KeepsReached : Graph → Table → ℕ → Table → Type 0
KeepsReached g table n new = (k : ℕ) (x : PlanNode) → IsReached table.nodes table.kept n k → slice_get table.nodes k ≡ Some x → KeptOrFull g new.kept k x.member
