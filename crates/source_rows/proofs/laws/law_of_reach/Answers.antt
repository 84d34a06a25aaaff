use Rattle.source_rows.proofs.Finding.{reached_none, reached_one_more, reached_all}
use Rattle.source_rows.proofs.laws.law_of_reach.Goals as goal

pub returns-clause-none : goal.returns-clause-none
returns-clause-none c = reached_none

pub returns-clause-more : goal.returns-clause-more
returns-clause-more c = reached_one_more

pub returns-clause-all : goal.returns-clause-all
returns-clause-all c = reached_all
