use Rattle.match_parser.proofs.Law.{one_query, one_fault, no_fault, reads_or_fault}
use Rattle.match_parser.proofs.laws.law_of_queries.Goals as goal

pub returns-clause-one : goal.returns-clause-one
returns-clause-one c = one_query c.law_of_tokens.ensures.one

pub returns-clause-first : goal.returns-clause-first
returns-clause-first c = one_fault c.law_of_tokens.ensures.one

pub returns-clause-apart : goal.returns-clause-apart
returns-clause-apart c = no_fault c.law_of_tokens.ensures.one

pub returns-clause-some : goal.returns-clause-some
returns-clause-some c = reads_or_fault c.law_of_tokens.ensures.some
