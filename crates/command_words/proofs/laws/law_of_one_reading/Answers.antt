use Rattle.command_words.proofs.Digits.{one_reading}
use Rattle.command_words.proofs.laws.law_of_one_reading.Goals as goal

pub returns : goal.returns
returns c = one_reading
