use Rattle.interval_set.proofs.Changed.{joined_exists, cut_exists, put_exists, clear_exists}
use Rattle.interval_set.proofs.laws.law_of_changes.Goals as goal

pub returns-clause-joined : goal.returns-clause-joined
returns-clause-joined c = joined_exists

pub returns-clause-cut : goal.returns-clause-cut
returns-clause-cut c = cut_exists

pub returns-clause-put : goal.returns-clause-put
returns-clause-put c = put_exists

pub returns-clause-cleared : goal.returns-clause-cleared
returns-clause-cleared c = clear_exists
