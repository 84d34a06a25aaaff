use Rattle.script_lex.proofs.OneList.{tokens_exist, tokens_unique}
use Rattle.script_lex.proofs.laws.law_of_tokens.Goals as goal

pub returns-clause-some : goal.returns-clause-some
returns-clause-some c = tokens_exist

pub returns-clause-one : goal.returns-clause-one
returns-clause-one c = tokens_unique
