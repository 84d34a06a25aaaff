use Rattle.relation_rows.proofs.TimeLaws.{times_unique}
use Rattle.relation_rows.proofs.laws.law_of_unique_times.Goals as goal

pub returns : goal.returns
returns g c = times_unique (g.M.Moments.has c.args.moments.now)
