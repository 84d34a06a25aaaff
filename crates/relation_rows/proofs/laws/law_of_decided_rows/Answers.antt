use Rattle.relation_rows.proofs.Exists.{rows_exist}
use Rattle.relation_rows.proofs.laws.law_of_decided_rows.Goals as goal

pub returns : goal.returns
returns g c = λ objects low high finite decide. rows_exist objects low high (g.P.Pairs.holds c.args.pairs.now) decide finite
