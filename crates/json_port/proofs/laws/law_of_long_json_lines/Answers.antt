use Rattle.json_port.proofs.LongLines.{front_decides}
use Rattle.json_port.proofs.laws.law_of_long_json_lines.Goals as goal

pub returns : goal.returns
returns c = front_decides
