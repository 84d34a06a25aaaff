use Rattle.label_scope.proofs.Listed.{step}
use Rattle.label_scope.proofs.members.members_of_a_step_to_an_edge.Goals as goal

pub returns : goal.returns
returns c = step
