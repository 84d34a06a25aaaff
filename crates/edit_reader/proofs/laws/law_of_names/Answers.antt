use Rattle.edit_reader.specs.Faults.{without_end}
use Rattle.edit_reader.proofs.GivenNames.{taken_words}
use Rattle.edit_reader.proofs.laws.law_of_names.Goals as goal

pub returns : goal.returns
returns c = λ line. taken_words (without_end line)
