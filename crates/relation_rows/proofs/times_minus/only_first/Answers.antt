use Rattle.std.proofs.Common.{sym, subst}
use Rattle.itpg_base.specs.Lists.{Among}
use Rattle.relation_rows.specs.Times.{AreTimes, OnlyFirstHas}
use Rattle.relation_rows.proofs.Runs.{one_time_of}
use Rattle.itpg_base.proofs.Lists.{among_at}
use Rattle.relation_rows.proofs.TimesMinus.{none_first, first_all}
use Rattle.relation_rows.proofs.CutRows.{cutting_start, cutting_more}
use Rattle.relation_rows.proofs.times_minus.only_first.Goals as goal

pub loop-row-init : goal.loop-row-init
loop-row-init c = cutting_start c.args.first.now c.args.second.now c.new-times.result.items c.requires.second (none_first c.args.first.now c.args.second.now c.new-times.result.items c.new-times.ensures.items)

pub loop-row-preserved : goal.loop-row-preserved
loop-row-preserved c =
    cutting_more c.args.first.now c.args.second.now c.requires.first c.loop-row.row-index c.row-item.result c.row-item.result c.loop-row-test.true c.row-item.is
    c.loop-row.cuts.now c.loop-row.times.items c.loop-row.invariant _ c.push_left.new.times.items c.in_ok-cuts.ensures

pub from_rows-requires : goal.from_rows-requires
from_rows-requires c = one_time_of _ c.loop-row.times.items (first_all c.args.first.now c.args.second.now c.loop-row.row-index c.loop-row.times.items c.loop-row-test.false c.loop-row.invariant.times)

pub returns : goal.returns
returns c =
    subst (AreTimes (OnlyFirstHas c.args.first.now c.args.second.now)) (sym c.from_rows.ensures)
    (first_all c.args.first.now c.args.second.now c.loop-row.row-index c.loop-row.times.items c.loop-row-test.false c.loop-row.invariant.times)

pub push_left-requires-clause-span : goal.push_left-requires-clause-span
push_left-requires-clause-span c =
    c.requires.first.spans c.row-item.result (subst (Among c.args.first.now) (sym c.row-item.is) (among_at c.args.first.now c.loop-row.row-index c.row-item.result c.loop-row-test.true))
