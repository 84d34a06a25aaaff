use Rattle.label_scope.proofs.Listed.{first_and_last}
use Rattle.label_scope.proofs.members.members_of_contacts.Goals as goal

pub returns : goal.returns
returns c = first_and_last
