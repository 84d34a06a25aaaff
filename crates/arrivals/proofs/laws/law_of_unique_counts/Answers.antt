use Rattle.arrivals.proofs.CountLaws.{counts_unique}
use Rattle.arrivals.proofs.laws.law_of_unique_counts.Goals as goal

pub returns : goal.returns
returns g c = counts_unique (g.M.Moments.has c.args.moments.now)
