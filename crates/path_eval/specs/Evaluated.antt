-- Members that are worked out on a graph, where one is wide.
use Rattle.std.specs.Prelude.{ℕ, Bool, List, IsTrue}
use Rattle.itpg_base.specs.Graphs.{Graph}
use Rattle.itpg_base.specs.Points.{Point}
use Rattle.itpg_base.specs.Lists.{Among}
use Rattle.relation_rows.specs.Rows.{IsWide}
use Rattle.path_ast.specs.Terms.{PathTerm}
use Rattle.path_ast.specs.Meaning.{Rel}
use Rattle.label_scope.specs.Members.{Member}
use Rattle.plan_cache.specs.RightRows.{member_relation, members_of}

-- some of the members has more normal rows than the limit
pub record SomeIsWide (g : Graph) (limit : ℕ) (members : List Member) : Type 0 where
  pub member : Member
  pub among : Among members member
  pub wide : IsWide (member_relation g member) limit

-- some member that is worked out for it is wide
abbrev pub NeedsWide : Graph → ℕ → Member → Type 0
NeedsWide g limit m = SomeIsWide g limit (members_of m)

-- the path leads from x to y, x is of one of any objects that are picked for the sources, and y of one for the targets
pub record CutToPicked (g : Graph) (p : PathTerm) (sources targets : ℕ → Bool) (x y : Point) : Type 0 where
  pub leads : Rel p g x y
  pub source : IsTrue (sources x.object)
  pub target : IsTrue (targets y.object)
