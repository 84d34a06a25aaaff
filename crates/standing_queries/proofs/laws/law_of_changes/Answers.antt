use Rattle.standing_queries.proofs.Rests.{one_rest, some_rest}
use Rattle.standing_queries.proofs.laws.law_of_changes.Goals as goal

pub returns-clause-one : goal.returns-clause-one
returns-clause-one c = one_rest

pub returns-clause-some : goal.returns-clause-some
returns-clause-some c = some_rest
