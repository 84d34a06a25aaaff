use Rattle.relation_rows.proofs.Listed.{rows_unique}
use Rattle.label_scope.specs.Narrowing.{Cut}
use Rattle.path_eval.proofs.Finite.{cut_rows}
use Rattle.path_eval.proofs.laws.law_of_cuts.Goals as goal

pub returns-clause-some : goal.returns-clause-some
returns-clause-some c = cut_rows

pub returns-clause-one : goal.returns-clause-one
returns-clause-one c = λ g p a b. rows_unique (Cut g p a b)
