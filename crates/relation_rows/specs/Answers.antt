-- What a call that is given a limit of rows answers.
use Rattle.std.specs.Prelude.{ℕ, ◌≤◌, List, length, Result, Ok, Err}
use Rattle.itpg_base.specs.Points.{Relation}
use Rattle.relation_rows.specs.declared.rows.Row.{Row}
use Rattle.relation_rows.specs.declared.rows.RelFault.{RelFault}
use Rattle.relation_rows.specs.declared.rows.RelFault.TheVariants.{Memory, Wide}
use Rattle.relation_rows.specs.Rows.{NormalRows, IsWide}

-- the normal rows of the relation, at most as many as the limit; `Wide` where there are more; memory may run out
abbrev pub Gives : Result (List Row) RelFault → Relation → ℕ → Type 0
Gives (Ok rows) R limit = NormalRows R rows × (length rows ≤ limit)
Gives (Err Memory) R limit = Unit {0}
Gives (Err Wide) R limit = IsWide R limit
