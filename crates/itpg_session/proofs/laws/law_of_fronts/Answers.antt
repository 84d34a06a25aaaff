use Rattle.itpg_session.proofs.Answering.{front_replies}
use Rattle.itpg_session.proofs.Lines.{front_is}
use Rattle.itpg_session.proofs.laws.law_of_fronts.Goals as goal

pub returns : goal.returns
returns c = front_replies (front_is c.law_of_long_lines.ensures c.law_of_long_json_lines.ensures)
