use Rattle.relation_rows.proofs.ByRows.{ended_more}
use Rattle.relation_rows.proofs.by_rows.ended_count.Goals as goal

pub loop-i-preserved : goal.loop-i-preserved
loop-i-preserved c =
    ended_more c.args.cuts.now c.loop-i.i _ c.args.row.now.band.from c.loop-i-test.true c.loop-i.invariant (c.ends_too_soon.ensures.0 c.if-not-ends_too_soon.false)
