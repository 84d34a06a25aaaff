use Rattle.script_lex.proofs.OneList.{lead_more, lead_end, lead_rest}
use Rattle.script_lex.proofs.laws.law_of_reading.Goals as goal

pub returns-clause-more : goal.returns-clause-more
returns-clause-more c = lead_more

pub returns-clause-end : goal.returns-clause-end
returns-clause-end c = lead_end

pub returns-clause-rest : goal.returns-clause-rest
returns-clause-rest c = lead_rest
