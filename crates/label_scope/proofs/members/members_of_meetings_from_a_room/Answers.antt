use Rattle.label_scope.proofs.Listed.{meetings}
use Rattle.label_scope.proofs.members.members_of_meetings_from_a_room.Goals as goal

pub returns : goal.returns
returns c = meetings
