use Rattle.match_parser.proofs.InRange.{path_in_range, few_terms, asks_for_one}
use Rattle.match_parser.proofs.laws.law_of_read_queries.Goals as goal

pub returns-clause-range : goal.returns-clause-range
returns-clause-range c = path_in_range

pub returns-clause-terms : goal.returns-clause-terms
returns-clause-terms c = few_terms

pub returns-clause-ends : goal.returns-clause-ends
returns-clause-ends c = asks_for_one
