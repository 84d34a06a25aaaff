-- How many rows a question needs, by the counts of its members.
use Rattle.std.specs.Prelude.{◌≡◌, ◌⊎◌, ℕ, ◌<◌, ◌≤◌, List, [], ◌∷◌, length, Option, Some, None}
use Rattle.itpg_base.specs.Graphs.{Graph}
use Rattle.itpg_base.specs.Lists.{Among}
use Rattle.path_ast.specs.Terms.{PathTerm}
use Rattle.label_scope.specs.declared.scope.Scope.TheVariants.{All}
use Rattle.label_scope.specs.Members.{worked}
use Rattle.plan_cache.specs.Nodes.{PlanNode, AreShared, IsNodeOf, narrowed_member}
use Rattle.plan_cache.specs.Growing.{AddsUnder}
use Rattle.path_eval.specs.Evaluated.{SomeIsWide}
use Rattle.question_costs.specs.declared.count.Count.{Count}
use Rattle.question_costs.specs.declared.count.Count.TheVariants.{Rows, Over, Unknown}
use Rattle.question_costs.specs.Counts.{AreTold}

-- rows are told of the member, and at most n
abbrev pub HasAtMost : ℕ → Count → Type 0
HasAtMost n (Rows k) = k ≤ n
HasAtMost n Over = ⊥
HasAtMost n Unknown = ⊥

-- n is more than usual, some member has n rows, and each member has at most n
pub record NeedsRows (usual : ℕ) (counts : List Count) (n : ℕ) : Type 0 where
  pub beyond : usual < n
  pub some : Among counts (Rows n)
  pub each : (c : Count) → Among counts c → HasAtMost n c

-- no rows are told of the member
abbrev pub HasNone : Count → Type 0
HasNone (Rows k) = ⊥
HasNone Over = Unit {0}
HasNone Unknown = Unit {0}

-- each member has at most n rows, and some has n, or n is 0; or of some no rows are told
abbrev pub IsGreatest : List Count → Option ℕ → Type 0
IsGreatest counts None = (c : Count) × Among counts c × HasNone c
IsGreatest counts (Some n) = ((c : Count) → Among counts c → HasAtMost n c) × ((n ≡ 0) ⊎ Among counts (Rows n))

-- the counts are told of the members of the path: of its node, which is the root, and of those under it, and of no others
pub record AreCountsOf (g : Graph) (limit : ℕ) (p : PathTerm) (nodes : List PlanNode) (root : ℕ) (counts : List Count) : Type 0 where
  pub node : IsNodeOf nodes root (narrowed_member p All All)
  pub only : AddsUnder [] nodes (root ∷ [])
  pub shared : AreShared nodes
  pub each : length counts ≡ length nodes
  pub told : AreTold g limit nodes counts

-- n is more than usual, and with any lower limit the question is too wide
pub record MustHave (g : Graph) (p : PathTerm) (usual n : ℕ) : Type 0 where
  pub beyond : usual < n
  pub wide : (less : ℕ) → less < n → SomeIsWide g less (worked p All All)
