use Rattle.script_lex.proofs.OneList.{tokens_written}
use Rattle.script_lex.proofs.laws.law_of_lines.Goals as goal

pub returns : goal.returns
returns c = tokens_written
