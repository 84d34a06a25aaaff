use Rattle.std.proofs.Common.{sym, subst}
use Rattle.itpg_base.specs.Lists.{Among}
use Rattle.itpg_base.proofs.Lists.{among_at}
use Rattle.condition_eval.proofs.Cutting.{cut_start, cut_more, cut_end}
use Rattle.condition_eval.proofs.without.without.Goals as goal

pub loop-row-init : goal.loop-row-init
loop-row-init c = cut_start c.args.first.now c.args.second.now _ c.requires.second c.in_ok-rows.ensures.items

pub push_uncut-requires-clause-span : goal.push_uncut-requires-clause-span
push_uncut-requires-clause-span c =
    c.requires.first.spans c.row-item.result (subst (Among c.args.first.now) (sym c.row-item.is) (among_at c.args.first.now c.loop-row.row-index c.row-item.result c.loop-row-test.true))

pub loop-row-preserved : goal.loop-row-preserved
loop-row-preserved c =
    let going = c.going_at-cuts.ensures in
    cut_more c.args.first.now c.args.second.now c.requires.first c.loop-row.row-index c.row-item.result c.loop-row-test.true c.row-item.is _ _ c.loop-row.invariant
    c.going_at-cuts.result.now (record { order = going.order; there = going.there; ended = going.ended }) c.begun_in.result.now c.begun_in.ensures.there c.begun_in.ensures.meets c.begun_in.ensures.all _ c.in_ok-push_uncut.ensures

pub returns : goal.returns
returns c = cut_end c.args.first.now c.args.second.now c.loop-row.row-index _ _ c.loop-row-test.false c.loop-row.invariant
