use Rattle.label_scope.proofs.Listed.{wait}
use Rattle.label_scope.proofs.members.members_of_a_wait.Goals as goal

pub returns : goal.returns
returns c = wait
