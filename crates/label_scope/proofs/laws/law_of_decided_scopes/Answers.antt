use Rattle.label_scope.proofs.Within.{decide_within_scope}
use Rattle.label_scope.proofs.laws.law_of_decided_scopes.Goals as goal

pub returns : goal.returns
returns c = decide_within_scope
