use Rattle.edit_reader.specs.Faults.{without_end}
use Rattle.edit_reader.proofs.Firsts.{taken_once, taken_somehow}
use Rattle.edit_reader.proofs.laws.law_of_lines.Goals as goal

pub returns-clause-some : goal.returns-clause-some
returns-clause-some c = λ line. taken_somehow (without_end line)

pub returns-clause-one : goal.returns-clause-one
returns-clause-one c = λ line. taken_once (without_end line)
