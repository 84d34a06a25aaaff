use Rattle.label_scope.proofs.ListedParts.{second_narrows, wait_narrows, either_narrows}
use Rattle.label_scope.proofs.examples.members_of_sequences.Goals as goal

pub returns-clause-second : goal.returns-clause-second
returns-clause-second c = second_narrows

pub returns-clause-kept : goal.returns-clause-kept
returns-clause-kept c = wait_narrows

pub returns-clause-either : goal.returns-clause-either
returns-clause-either c = either_narrows
