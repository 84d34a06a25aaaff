use Rattle.relation_rows.proofs.Listed.{rows_unique}
use Rattle.path_eval.specs.Evaluated.{CutToPicked}
use Rattle.path_eval.proofs.Finite.{picked_rows}
use Rattle.path_eval.proofs.laws.law_of_picked_objects.Goals as goal

pub returns-clause-some : goal.returns-clause-some
returns-clause-some c = picked_rows

pub returns-clause-one : goal.returns-clause-one
returns-clause-one c = λ g p sources targets. rows_unique (CutToPicked g p sources targets)
