-- Which members of a question have a relation in another table of plans.
use Rattle.std.specs.Prelude.{ℕ, Bool, false, List, slice_get, unwrap_or, Option, Some, None, IsSome, IsSomeAnd, IsTrue}
use Rattle.label_scope.specs.Members.{Member}
use Rattle.relation_rows.specs.declared.rows.Row.{Row}
use Rattle.plan_cache.specs.Nodes.{PlanNode, Kept, Table, IsNodeOf}
use Rattle.plan_cache.specs.Refilled.{KeepsOf}

-- a relation is kept at the member's node, in a table if there is one
abbrev pub IsKeptIn : Option Table → Member → Type 0
IsKeptIn None m = ⊥
IsKeptIn (Some table) m = (rows : List Row) × KeepsOf table m rows

-- a relation is kept at the place
abbrev pub HasRelation : List Kept → ℕ → Type 0
HasRelation kept place = IsSomeAnd (slice_get kept place) (λ v. IsSome v)

-- whether the relation of the member of this number is said to be kept
abbrev pub is_kept_at : List Bool → ℕ → Bool
is_kept_at kept k = unwrap_or (slice_get kept k) false

-- a relation is said to be kept only of members at whose node of the other table one is
abbrev pub AreKeptOnly : List PlanNode → Option Table → List Bool → Type 0
AreKeptOnly nodes other kept = (k : ℕ) (m : Member) → IsNodeOf nodes k m → IsTrue (is_kept_at kept k) → IsKeptIn other m

-- and of all of them
abbrev pub AreAllKept : List PlanNode → Option Table → List Bool → Type 0
AreAllKept nodes other kept = (k : ℕ) (m : Member) → IsNodeOf nodes k m → IsKeptIn other m → IsTrue (is_kept_at kept k)
