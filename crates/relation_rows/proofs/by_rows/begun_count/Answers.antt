use Rattle.relation_rows.proofs.ByRows.{later_begins}
use Rattle.relation_rows.proofs.by_rows.begun_count.Goals as goal

pub returns-then-begins_too_late-clause-later : goal.returns-then-begins_too_late-clause-later
returns-then-begins_too_late-clause-later c =
    later_begins c.args.cuts.now c.loop-i.i _ c.args.row.now.band.to c.requires c.loop-i-test.true (c.begins_too_late.ensures.0 c.if-begins_too_late.true)
