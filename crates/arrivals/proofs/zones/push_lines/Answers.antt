use Rattle.arrivals.specs.Firsts.{OnLow}
use Rattle.itpg_base.proofs.Lists.{among_at}
use Rattle.arrivals.proofs.Pushing.{none_pushed, one_pushed, all_pushed}
use Rattle.arrivals.proofs.zones.push_lines.Goals as goal

pub line_of-requires : goal.line_of-requires
line_of-requires c = c.requires _ (among_at c.args.bands.now c.loop-band.band-index _ c.loop-band-test.true)

pub loop-band-init : goal.loop-band-init
loop-band-init c = none_pushed OnLow c.args.zones.now.items c.args.bands.now

pub loop-band-preserved : goal.loop-band-preserved
loop-band-preserved c =
    let pushed = c.in_ok-push.ensures.items in
    one_pushed OnLow c.args.zones.now.items c.args.bands.now c.loop-band.band-index _ c.loop-band-test.true c.line_of.result c.line_of.ensures c.loop-band.zones.items c.push.new.self.items pushed c.loop-band.invariant

pub returns : goal.returns
returns c = all_pushed OnLow c.args.zones.now.items c.args.bands.now c.loop-band.band-index c.loop-band.zones.items c.loop-band-test.false c.loop-band.invariant
