-- For the crate's own functions: what they work out.
use Rattle.std.specs.Prelude.{ℕ, ◌+◌, List, Result, Ok, Err}
use Rattle.itpg_base.specs.Graphs.{Graph}
use Rattle.itpg_base.specs.Points.{Relation}
use Rattle.relation_rows.specs.declared.rows.Row.{Row}
use Rattle.relation_rows.specs.declared.rows.RelFault.{RelFault}
use Rattle.relation_rows.specs.declared.rows.RelFault.TheVariants.{Memory, Wide}
use Rattle.relation_rows.specs.Rows.{NormalRows}
use Rattle.path_ast.specs.Terms.{PathTerm}
use Rattle.label_scope.specs.declared.scope.Scope.{Scope}
use Rattle.label_scope.specs.Narrowing.{Cut}
use Rattle.label_scope.specs.Members.{Member}
use Rattle.plan_cache.specs.Operations.{PartTerm, Asks, Leads, BothHold, EitherHolds, Fails}
use Rattle.path_eval.specs.declared.basis.Ground.{Ground}
use Rattle.plan_cache.specs.RightRows.{AllFit, members_of}
use Rattle.path_eval.specs.Evaluated.{SomeIsWide}

-- the normal rows of the relation, where each of the members fits; `Wide` where one of them doesn't; memory may run out
abbrev pub WorksOutAs : Result (List Row) RelFault → Relation → Graph → ℕ → List Member → Type 0
WorksOutAs (Ok rows) R g limit members = NormalRows R rows × AllFit g limit members
WorksOutAs (Err Memory) R g limit members = Unit {0}
WorksOutAs (Err Wide) R g limit members = SomeIsWide g limit members

-- the same for a path between two scopes
abbrev pub WorksOut : Ground → Result (List Row) RelFault → PathTerm → Scope → Scope → List Member → Type 0
WorksOut basis result p a b members = WorksOutAs result (Cut basis.graph.now p a b) basis.graph.now basis.max_rows members

-- the same for a member between narrowed scopes
abbrev pub WorksOutMember : Ground → Result (List Row) RelFault → Member → Type 0
WorksOutMember basis result m = WorksOut basis result m.path m.sources m.targets (members_of m)

-- how many tests a test is made of
abbrev pub part_size : PartTerm → ℕ
part_size (Asks leaf) = 1
part_size (Leads k) = 1
part_size (BothHold c d) = part_size c + part_size d + 1
part_size (EitherHolds c d) = part_size c + part_size d + 1
part_size (Fails c) = part_size c + 1
