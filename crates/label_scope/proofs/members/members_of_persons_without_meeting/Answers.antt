use Rattle.label_scope.proofs.Listed.{without_meeting}
use Rattle.label_scope.proofs.members.members_of_persons_without_meeting.Goals as goal

pub returns : goal.returns
returns c = without_meeting
