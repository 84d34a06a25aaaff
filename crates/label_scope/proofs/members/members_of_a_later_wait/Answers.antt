use Rattle.label_scope.proofs.Listed.{later_wait}
use Rattle.label_scope.proofs.members.members_of_a_later_wait.Goals as goal

pub returns : goal.returns
returns c = later_wait
