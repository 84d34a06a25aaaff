use Rattle.arrivals.proofs.Turning.{all_reversed}
use Rattle.arrivals.proofs.zones.reverse_all.Goals as goal

pub returns : goal.returns
returns c = all_reversed c.new-turned.result.items c.args.zones.now c.push_reverse.new.turned.items c.new-turned.ensures.items c.in_ok-push_reverse.ensures
