use Rattle.relation_rows.proofs.Listed.{rows_unique}
use Rattle.path_ast.specs.Meaning.{Rel}
use Rattle.path_eval.specs.Nearby.{FromObject}
use Rattle.path_eval.proofs.Sources.{wide_or_rows, rows_stay, wide_before}
use Rattle.path_eval.proofs.laws.law_of_near_rows.Goals as goal

pub returns-clause-exists : goal.returns-clause-exists
returns-clause-exists c = wide_or_rows

pub returns-clause-one : goal.returns-clause-one
returns-clause-one c = λ g p o. rows_unique (FromObject o (Rel p g))

pub returns-clause-rows : goal.returns-clause-rows
returns-clause-rows c = λ g new edit p o rows good stands next apart. rows_stay g new edit p o good stands next apart rows

pub returns-clause-fits : goal.returns-clause-fits
returns-clause-fits c = λ g new edit limit p o good stands next apart. wide_before g new edit p o good stands next apart limit
