use Rattle.relation_rows.proofs.Leaving.{none_cut, cut_more, all_cut}
use Rattle.relation_rows.proofs.minus.without_each.Goals as goal

pub loop-cut-init : goal.loop-cut-init
loop-cut-init c = none_cut c.args.zones.now c.args.cuts.now c.in_ok-left.left.items c.in_ok-left.ensures.items

pub loop-cut-preserved : goal.loop-cut-preserved
loop-cut-preserved c =
    cut_more c.args.zones.now c.args.cuts.now c.loop-cut.cut-index _ c.cut-item.result c.loop-cut-test.true c.cut-item.is
    c.loop-cut.left.items c.in_ok-left-2.left.items c.in_ok-left-2.ensures c.loop-cut.invariant

pub returns : goal.returns
returns c = all_cut c.args.zones.now c.args.cuts.now c.loop-cut.cut-index c.loop-cut.left.items c.loop-cut-test.false c.loop-cut.invariant
