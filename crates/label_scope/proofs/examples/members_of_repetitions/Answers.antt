use Rattle.label_scope.proofs.ListedParts.{room_to_door, two_waits, five_to_seven, without_end}
use Rattle.label_scope.proofs.examples.members_of_repetitions.Goals as goal

pub returns-clause-passed : goal.returns-clause-passed
returns-clause-passed c = room_to_door

pub returns-clause-kept : goal.returns-clause-kept
returns-clause-kept c = two_waits

pub returns-clause-powers : goal.returns-clause-powers
returns-clause-powers c = five_to_seven

pub returns-clause-unions : goal.returns-clause-unions
returns-clause-unions c = without_end
