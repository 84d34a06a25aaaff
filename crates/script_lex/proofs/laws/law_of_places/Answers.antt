use Rattle.script_lex.proofs.OneList.{next_unique, end_unique, next_goes_on}
use Rattle.script_lex.proofs.laws.law_of_places.Goals as goal

pub returns-clause-token : goal.returns-clause-token
returns-clause-token c = next_unique

pub returns-clause-end : goal.returns-clause-end
returns-clause-end c = end_unique

pub returns-clause-apart : goal.returns-clause-apart
returns-clause-apart c = next_goes_on
