-- The members of a question as a tree: a line for each path, and below it those of the path's parts.
use Rattle.std.specs.Prelude.{ℕ, ◌+◌, ◌*◌, Bool, List, [], ◌++◌, replicate, unwrap_or, slice_get, Option, Some, None}
use Rattle.path_ast.specs.Terms.{PathTerm, OfTest, Forward, Backward, Next, Previous, Sequence, Choice, Repetition, TestTerm, IsNode, IsEdge, HasLabel, HasValue, IsBelow, DoesExist, Condition, Conjunction, Disjunction, Negation}
use Rattle.plan_cache.specs.Nodes.{PlanNode}
use Rattle.plan_cache.specs.Refilled.{numbers_of}
use Rattle.question_costs.specs.declared.count.MemberCount.{MemberCount}
use Rattle.question_costs.specs.declared.tree.Tree.{Tree}
use Rattle.question_costs.specs.Kept.{is_kept_at}
use Rattle.question_costs.specs.Texts.{Told, told_text}

-- what is shown of the members, in order of their numbers: their nodes, what is told of them, and whether their relation was kept
pub record Shown : Type 0 where
  pub limit : ℕ
  pub nodes : List PlanNode
  pub members : List MemberCount
  pub kept : List Bool

abbrev pub shown_of : Tree → Shown
shown_of t = record { limit = t.max_rows; nodes = t.counted.plans.nodes; members = t.counted.members.items; kept = t.kept.items }

-- what is told of a member, where it has a node
abbrev pub told_if : List Bool → ℕ → Option PlanNode → Option MemberCount → Option Told
told_if kept k None member = None
told_if kept k (Some n) None = None
told_if kept k (Some n) (Some m) = Some (record { number = k; count = m.count; micros = m.micros; is_kept = is_kept_at kept k; sources = n.member.sources; targets = n.member.targets })

-- what is told of the member of this number
abbrev pub told_at : Shown → ℕ → Option Told
told_at s k = told_if s.kept k (slice_get s.nodes k) (slice_get s.members k)

-- the line of a path with what is told of it, two blanks further to the right for each step down
abbrev pub line_if : ℕ → PathTerm → ℕ → Option Told → List ℕ
line_if limit p depth None = []
line_if limit p depth (Some m) = replicate (2 * depth) 32 ++ told_text limit m p

abbrev pub line_at : Shown → PathTerm → ℕ → ℕ → List ℕ
line_at s p k depth = line_if s.limit p depth (told_at s k)

-- the numbers of a member's parts
abbrev pub parts_if : Option MemberCount → List ℕ
parts_if None = []
parts_if (Some m) = numbers_of m.children.items

-- the number that no member has
abbrev pub no_number : ℕ
no_number = 4294967295

-- the number of the part at a place
abbrev pub part_at : Shown → ℕ → ℕ → ℕ
part_at s k place = unwrap_or (slice_get (parts_if (slice_get s.members k)) place) no_number

-- how many conditions stand in a test, not counting those within a condition
abbrev pub conditions_in : TestTerm → ℕ
conditions_in IsNode = 0
conditions_in IsEdge = 0
conditions_in (HasLabel label) = 0
conditions_in (HasValue prop value) = 0
conditions_in (IsBelow k) = 0
conditions_in DoesExist = 0
conditions_in (Condition a) = 1
conditions_in (Conjunction a b) = conditions_in a + conditions_in b
conditions_in (Disjunction a b) = conditions_in a + conditions_in b
conditions_in (Negation a) = conditions_in a

-- the lines of a path whose member has this number, and of its parts; and those of a test's conditions from a place on
abbrev mutual
  pub tree_text : Shown → PathTerm → ℕ → ℕ → List ℕ
  tree_text s (OfTest c) k depth = line_at s (OfTest c) k depth ++ parts_text s c k 0 (depth + 1)
  tree_text s Forward k depth = line_at s Forward k depth
  tree_text s Backward k depth = line_at s Backward k depth
  tree_text s Next k depth = line_at s Next k depth
  tree_text s Previous k depth = line_at s Previous k depth
  tree_text s (Sequence a b) k depth = line_at s (Sequence a b) k depth ++ (tree_text s a (part_at s k 0) (depth + 1) ++ tree_text s b (part_at s k 1) (depth + 1))
  tree_text s (Choice a b) k depth = line_at s (Choice a b) k depth ++ (tree_text s a (part_at s k 0) (depth + 1) ++ tree_text s b (part_at s k 1) (depth + 1))
  tree_text s (Repetition a n m) k depth = line_at s (Repetition a n m) k depth ++ tree_text s a (part_at s k 0) (depth + 1)

  pub parts_text : Shown → TestTerm → ℕ → ℕ → ℕ → List ℕ
  parts_text s IsNode k place depth = []
  parts_text s IsEdge k place depth = []
  parts_text s (HasLabel label) k place depth = []
  parts_text s (HasValue prop value) k place depth = []
  parts_text s (IsBelow moment) k place depth = []
  parts_text s DoesExist k place depth = []
  parts_text s (Condition a) k place depth = tree_text s a (part_at s k place) depth
  parts_text s (Conjunction a b) k place depth = parts_text s a k place depth ++ parts_text s b k (place + conditions_in a) depth
  parts_text s (Disjunction a b) k place depth = parts_text s a k place depth ++ parts_text s b k (place + conditions_in a) depth
  parts_text s (Negation a) k place depth = parts_text s a k place depth
