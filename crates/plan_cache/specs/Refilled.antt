-- A table that is filled anew with the nodes of some queries.
use Rattle.std.specs.Prelude.{◌≡◌, ◌↔◌, ℕ, ◌+◌, List, [], ◌∷◌, map, slice_get, Some}
use Rattle.path_ast.specs.Terms.{QueryTerm}
use Rattle.path_ast.specs.Sizes.{path_size}
use Rattle.label_scope.specs.declared.scope.Scope.TheVariants.{All}
use Rattle.label_scope.specs.Members.{Member}
use Rattle.relation_rows.specs.declared.rows.Row.{Row}
use Rattle.plan_cache.specs.declared.operations.PlanNo.{PlanNo}
use Rattle.plan_cache.specs.Nodes.{PlanNode, Table, IsNodeOf, narrowed_member}

-- how many terms the paths of the queries have together
abbrev pub terms_of : List QueryTerm → ℕ
terms_of [] = 0
terms_of (q ∷ queries) = path_size q.path + terms_of queries

-- their paths between all objects, in order
abbrev pub members_asked : List QueryTerm → List Member
members_asked queries = map (λ q. narrowed_member q.path All All) queries

abbrev pub numbers_of : List PlanNo → List ℕ
numbers_of numbers = map (λ no. no.0) numbers

-- the member has a node
abbrev pub HasNode : List PlanNode → Member → Type 0
HasNode nodes m = (k : ℕ) × IsNodeOf nodes k m

-- at the member's node these rows are kept
abbrev pub KeepsOf : Table → Member → List Row → Type 0
KeepsOf table m rows = (k : ℕ) × IsNodeOf table.nodes k m × (slice_get table.kept k ≡ Some (Some rows))

-- of a member exactly those rows are kept that were before, if it has a node; and nothing is kept of any other
abbrev pub KeepsShared : Table → Table → Type 0
KeepsShared old new = (m : Member) (rows : List Row) → KeepsOf new m rows ↔ (KeepsOf old m rows × HasNode new.nodes m)
