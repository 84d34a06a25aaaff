use Rattle.itpg_base.proofs.Lists.{among_at}
use Rattle.relation_rows.proofs.Covering.{all_had, one_more_had, outer_had}
use Rattle.relation_rows.proofs.settle.row_of_all.Goals as goal

pub lies_within-requires-clause-inner : goal.lies_within-requires-clause-inner
lies_within-requires-clause-inner c = c.requires _ (among_at c.args.part.now c.loop-row.row-index _ c.loop-row-test.true)

pub lies_within-requires-in-loop-row-clause-outer : goal.lies_within-requires-in-loop-row-clause-outer
lies_within-requires-in-loop-row-clause-outer c = c.requires _ (among_at c.args.part.now c.loop-row.row-index _ c.loop-row-test.true)

pub loop-row-preserved-then-lies_within : goal.loop-row-preserved-then-lies_within
loop-row-preserved-then-lies_within c = one_more_had c.args.part.now c.loop-row.row-index _ c.loop-row-test.true c.loop-row.outer c.loop-row.invariant (c.lies_within.ensures c.if-lies_within.true)

pub loop-row-preserved : goal.loop-row-preserved
loop-row-preserved c =
    outer_had c.args.part.now c.loop-row.row-index _ c.loop-row-test.true c.loop-row.outer c.loop-row.invariant (c.lies_within-in-loop-row.ensures c.if-not-lies_within.false)

pub returns-clause-all : goal.returns-clause-all
returns-clause-all c = all_had c.args.part.now c.loop-row.row-index c.loop-row.outer c.loop-row-test.false c.loop-row.invariant
