use Rattle.relation_rows.proofs.Alike.{wide_apart}
use Rattle.relation_rows.proofs.Exists.{test_either, test_there}
use Rattle.relation_rows.proofs.laws.law_of_width.Goals as goal

pub returns-clause-either : goal.returns-clause-either
returns-clause-either g c = test_either

pub returns-clause-there : goal.returns-clause-there
returns-clause-there g c = test_there

pub returns-clause-apart : goal.returns-clause-apart
returns-clause-apart g c = wide_apart (g.P.Pairs.holds c.args.pairs.now)
