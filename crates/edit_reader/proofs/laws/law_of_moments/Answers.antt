use Rattle.edit_reader.specs.Faults.{without_end}
use Rattle.edit_reader.proofs.InRange.{taken_moments}
use Rattle.edit_reader.proofs.laws.law_of_moments.Goals as goal

pub returns : goal.returns
returns c = λ line. taken_moments (without_end line)
