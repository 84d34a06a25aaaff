-- When what a table keeps is right on a graph. Of this the crates above speak: no call here knows a graph.
use Rattle.std.specs.Prelude.{ℕ, List}
use Rattle.itpg_base.specs.Graphs.{Graph}
use Rattle.itpg_base.specs.Points.{Relation}
use Rattle.itpg_base.specs.Lists.{Among}
use Rattle.relation_rows.specs.declared.rows.Row.{Row}
use Rattle.relation_rows.specs.Rows.{NormalRows, Fits}
use Rattle.label_scope.specs.Narrowing.{Cut}
use Rattle.label_scope.specs.Members.{Member, members_between}
use Rattle.plan_cache.specs.Nodes.{Table}
use Rattle.plan_cache.specs.KeptRows.{AllKept}

-- the relation of a member: its path between its scopes
abbrev pub member_relation : Graph → Member → Relation
member_relation g m = Cut g m.path m.sources m.targets

-- each of the members has at most so many normal rows
abbrev pub AllFit : Graph → ℕ → List Member → Type 0
AllFit g limit members = (m : Member) → Among members m → Fits (member_relation g m) limit

-- what is worked out for a member between narrowed scopes: itself, and what it needs
abbrev pub members_of : Member → List Member
members_of m = members_between m.path m.sources m.targets

-- the rows are the normal rows of the member, and each member that is worked out for it fits
pub record IsRight (g : Graph) (limit : ℕ) (m : Member) (rows : List Row) : Type 0 where
  pub normal : NormalRows (member_relation g m) rows
  pub fits : AllFit g limit (members_of m)

-- each kept relation is that of its node on the graph, with all its worked members within the limit
abbrev pub IsTableRight : Graph → ℕ → Table → Type 0
IsTableRight g limit table = AllKept (IsRight g limit) table.nodes table.kept
