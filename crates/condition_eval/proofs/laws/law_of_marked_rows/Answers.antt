use Rattle.relation_rows.proofs.Listed.{rows_unique}
use Rattle.condition_eval.specs.Combined.{MarkedToItself}
use Rattle.condition_eval.proofs.Existing.{marked_rows}
use Rattle.condition_eval.proofs.laws.law_of_marked_rows.Goals as goal

pub returns-clause-some : goal.returns-clause-some
returns-clause-some c = marked_rows

pub returns-clause-one : goal.returns-clause-one
returns-clause-one c = λ marks. rows_unique (MarkedToItself marks)
