use Rattle.std.proofs.lemmas.List.{take_all}
use Rattle.band_normal.specs.Strips.{Holds}
use Rattle.band_normal.proofs.LinkLemmas.{can_link, linking_more, linking_end}
use Rattle.band_normal.proofs.links.linked.Goals as goal

pub link_strip-requires : goal.link_strip-requires
link_strip-requires g c = can_link (Holds g.held) _ _ c.requires _ _ _ _ c.loop-strip-test.true c.loop-strip.invariant

pub loop-strip-preserved : goal.loop-strip-preserved
loop-strip-preserved g c = linking_more (Holds g.held) _ _ c.requires _ _ _ _ _ _ c.loop-strip-test.true c.loop-strip.invariant c.in_ok-linking.ensures

pub returns : goal.returns
returns g c =
    let all = rw (take_all c.loop-strip.strip-index c.args.starts.now c.loop-strip-test.false) at c.loop-strip.invariant in
    linking_end (Holds g.held) _ _ c.requires _ _ all
