use Rattle.edit_reader.specs.Faults.{without_end}
use Rattle.edit_reader.proofs.InRange.{taken_labels}
use Rattle.edit_reader.proofs.laws.law_of_labels.Goals as goal

pub returns : goal.returns
returns c = λ line. taken_labels (without_end line)
