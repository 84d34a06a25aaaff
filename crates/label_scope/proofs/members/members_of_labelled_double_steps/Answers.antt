use Rattle.label_scope.proofs.Listed.{labelled_double_steps}
use Rattle.label_scope.proofs.members.members_of_labelled_double_steps.Goals as goal

pub returns : goal.returns
returns c = labelled_double_steps
