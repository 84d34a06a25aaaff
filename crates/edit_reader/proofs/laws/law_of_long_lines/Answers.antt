use Rattle.edit_reader.proofs.LongLines.{front_decides}
use Rattle.edit_reader.proofs.laws.law_of_long_lines.Goals as goal

pub returns : goal.returns
returns c = front_decides
