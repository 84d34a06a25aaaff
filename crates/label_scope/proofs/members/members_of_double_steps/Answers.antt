use Rattle.label_scope.proofs.Listed.{double_steps}
use Rattle.label_scope.proofs.members.members_of_double_steps.Goals as goal

pub returns : goal.returns
returns c = double_steps
