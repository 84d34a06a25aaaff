use Rattle.itpg_session.proofs.Replying.{one_asked, some_asked, declared_asked}
use Rattle.itpg_session.proofs.laws.law_of_asked.Goals as goal

pub returns-clause-one : goal.returns-clause-one
returns-clause-one c = one_asked (record {
  one_query = c.law_of_queries.ensures.one;
  one_fault = c.law_of_queries.ensures.first;
  apart = c.law_of_queries.ensures.apart;
  some_query = c.law_of_queries.ensures.some;
})

pub returns-clause-some : goal.returns-clause-some
returns-clause-some c = some_asked (record {
  one_query = c.law_of_queries.ensures.one;
  one_fault = c.law_of_queries.ensures.first;
  apart = c.law_of_queries.ensures.apart;
  some_query = c.law_of_queries.ensures.some;
})

pub returns-clause-declared : goal.returns-clause-declared
returns-clause-declared c = declared_asked
