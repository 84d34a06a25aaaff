-- The relations of plan nodes, as far as they are worked out.
use Rattle.std.specs.Prelude.{◌≡◌, ℕ, List, [], ◌∷◌, slice_get, Option, Some}
use Rattle.itpg_base.specs.Graphs.{Graph}
use Rattle.relation_rows.specs.declared.rows.Row.{Row}
use Rattle.path_ast.specs.Sizes.{IsPathInRange}
use Rattle.label_scope.specs.Members.{Member}
use Rattle.plan_cache.specs.Nodes.{PlanNode, parts_of}
use Rattle.plan_cache.specs.RightRows.{IsRight}

-- what is there of a node: its rows, or nothing
abbrev pub MaybeRows : Type 0
MaybeRows = Option (List Row)

-- rows are there at the number
abbrev pub IsThere : List MaybeRows → ℕ → Type 0
IsThere made k = (rows : List Row) × (slice_get made k ≡ Some (Some rows))

-- rows are there at the number, and they are right for the member
abbrev pub IsMade : Graph → ℕ → List MaybeRows → ℕ → Member → Type 0
IsMade g limit made k m = (rows : List Row) × (slice_get made k ≡ Some (Some rows)) × IsRight g limit m rows

-- so it is with each of the numbers and the members, in order
abbrev pub AreMade : Graph → ℕ → List MaybeRows → List ℕ → List Member → Type 0
AreMade g limit made [] [] = Unit {0}
AreMade g limit made [] (m ∷ ms) = ⊥
AreMade g limit made (k ∷ ks) [] = ⊥
AreMade g limit made (k ∷ ks) (m ∷ ms) = IsMade g limit made k m × AreMade g limit made ks ms

-- the node's path is in range, and its parts are made
pub record HasParts (g : Graph) (limit : ℕ) (made : List MaybeRows) (n : PlanNode) : Type 0 where
  pub in_range : IsPathInRange n.member.path
  pub parts : AreMade g limit made n.children (parts_of n.member)
