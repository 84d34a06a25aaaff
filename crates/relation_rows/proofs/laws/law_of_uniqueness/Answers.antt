use Rattle.relation_rows.proofs.Listed.{rows_unique}
use Rattle.relation_rows.proofs.laws.law_of_uniqueness.Goals as goal

pub returns : goal.returns
returns g c = rows_unique (g.P.Pairs.holds c.args.pairs.now)
