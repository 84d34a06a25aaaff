-- What is told of the members of a query on a graph.
use Rattle.std.specs.Prelude.{◌≡◌, ◌<◌, ℕ, Bool, true, false, List, map, length, slice_get, Option, Some, None}
use Rattle.std.specs.List.{list_all}
use Rattle.itpg_base.specs.Graphs.{Graph}
use Rattle.itpg_base.specs.Lists.{Among}
use Rattle.relation_rows.specs.declared.rows.Row.{Row}
use Rattle.label_scope.specs.Members.{Member}
use Rattle.plan_cache.specs.Nodes.{PlanNode, parts_of}
use Rattle.plan_cache.specs.Refilled.{numbers_of}
use Rattle.plan_cache.specs.RightRows.{AllFit, IsRight, members_of}
use Rattle.path_eval.specs.Evaluated.{NeedsWide}
use Rattle.question_costs.specs.declared.count.Count.{Count}
use Rattle.question_costs.specs.declared.count.Count.TheVariants.{Rows, Over, Unknown}
use Rattle.question_costs.specs.declared.count.MemberCount.{MemberCount}

-- the member has exactly n normal rows, and each relation that is worked out for it fits
pub record HasRowCount (g : Graph) (limit : ℕ) (m : Member) (n : ℕ) : Type 0 where
  pub rows : List Row
  pub right : IsRight g limit m rows
  pub many : length rows ≡ n

-- some relation that is worked out for the member is wide, and all that are worked out for its parts fit
pub record IsOver (g : Graph) (limit : ℕ) (m : Member) : Type 0 where
  pub wide : NeedsWide g limit m
  pub parts : (p : Member) → Among (parts_of m) p → AllFit g limit (members_of p)

-- some relation that is worked out for one of its parts is wide
abbrev pub HasWidePart : Graph → ℕ → Member → Type 0
HasWidePart g limit m = (p : Member) × Among (parts_of m) p × NeedsWide g limit p

-- what is told of the member is so
abbrev pub IsToldOf : Graph → ℕ → Member → Count → Type 0
IsToldOf g limit m (Rows n) = HasRowCount g limit m n
IsToldOf g limit m Over = IsOver g limit m
IsToldOf g limit m Unknown = HasWidePart g limit m

-- what is told of the first nodes, as many as there are counts, is so
abbrev pub AreTold : Graph → ℕ → List PlanNode → List Count → Type 0
AreTold g limit nodes counts = (k : ℕ) (n : PlanNode) (c : Count) → slice_get nodes k ≡ Some n → slice_get counts k ≡ Some c → IsToldOf g limit n.member c

-- the counts of the members, in order
abbrev pub counts_of : List MemberCount → List Count
counts_of members = map (λ m. m.count) members

-- with each of the first nodes, as many as there are members, stand the numbers of its children
abbrev pub HaveChildren : List PlanNode → List MemberCount → Type 0
HaveChildren nodes members = (k : ℕ) (n : PlanNode) (m : MemberCount) → slice_get nodes k ≡ Some n → slice_get members k ≡ Some m → numbers_of m.children.items ≡ n.children

-- no member before the place is over
abbrev pub NoneOverBefore : List Count → ℕ → Type 0
NoneOverBefore counts place = (k : ℕ) → k < place → ¬ (slice_get counts k ≡ Some Over)

-- how many rows are told, if any are
abbrev pub told_rows : Option Count → Option ℕ
told_rows None = None
told_rows (Some (Rows n)) = Some n
told_rows (Some Over) = None
told_rows (Some Unknown) = None

-- rows are told
abbrev pub is_rows : Option Count → Bool
is_rows None = false
is_rows (Some (Rows n)) = true
is_rows (Some Over) = false
is_rows (Some Unknown) = false

-- rows are told of the node of this number
abbrev pub has_rows_at : List Count → ℕ → Bool
has_rows_at counts k = is_rows (slice_get counts k)

-- rows are told of each of the nodes
abbrev pub all_have_rows : List Count → List ℕ → Bool
all_have_rows counts ks = list_all (has_rows_at counts) ks
