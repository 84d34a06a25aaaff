use Rattle.path_ast.proofs.Deciding.{decide_sat}
use Rattle.path_ast.proofs.laws.law_of_decided_tests.Goals as goal

pub returns-clause-decided : goal.returns-clause-decided
returns-clause-decided c = decide_sat

pub returns-clause-either : goal.returns-clause-either
returns-clause-either c = decide_sat

pub returns-clause-apart : goal.returns-clause-apart
returns-clause-apart c = λ d g x holds fails. fails holds
