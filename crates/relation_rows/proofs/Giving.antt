-- What answers with a limit say of relations that hold the same pairs.
use Rattle.std.proofs.Common.{ℕ, List, Result, Ok, Err}
use Rattle.itpg_base.specs.Points.{Point, Relation}
use Rattle.relation_rows.specs.declared.rows.Row.{Row}
use Rattle.relation_rows.specs.declared.rows.RelFault.{RelFault}
use Rattle.relation_rows.specs.declared.rows.RelFault.TheVariants.{Memory, Wide}
use Rattle.relation_rows.specs.Answers.{Gives}
use Rattle.relation_rows.proofs.Alike.{rows_alike, wide_alike}

pub gives_alike : (R S : Relation) → ((x y : Point) → R x y → S x y) → ((x y : Point) → S x y → R x y) → (limit : ℕ) → (r : Result (List Row) RelFault) → Gives r R limit → Gives r S limit
gives_alike R S f g limit (Ok rows) h = (rows_alike R S f g rows h.0, h.1)
gives_alike R S f g limit (Err Memory) h = tt
gives_alike R S f g limit (Err Wide) h = wide_alike R S f g limit h
