use Rattle.itpg_base.proofs.Lists.{among_at}
use Rattle.relation_rows.proofs.Going.{row_formed, missed_all, next_more, none_next, all_next}
use Rattle.relation_rows.proofs.ways.push_scanned.Goals as goal

pub loop-next-init : goal.loop-next-init
loop-next-init c = none_next c.args.row.now c.args.items.now.items c.args.here.now

pub is_missed-requires-clause-band : goal.is_missed-requires-clause-band
is_missed-requires-clause-band c = row_formed c.args.here.now c.loop-next.next-index _ c.loop-next-test.true c.requires.here

pub push_way-requires-clause-next : goal.push_way-requires-clause-next
push_way-requires-clause-next c = row_formed c.args.here.now c.loop-next.next-index _ c.loop-next-test.true c.requires.here

pub loop-next-preserved : goal.loop-next-preserved
loop-next-preserved c =
    next_more c.args.row.now c.zone_of-zone.result c.zone_of-zone.ensures _ _ _ c.args.here.now c.loop-next.next-index _ c.loop-next-test.true
    (c.requires.source _ (among_at c.args.here.now c.loop-next.next-index _ c.loop-next-test.true))
    c.in_ok-push_way.ensures c.loop-next.invariant

pub loop-next-preserved-then-is_missed : goal.loop-next-preserved-then-is_missed
loop-next-preserved-then-is_missed c =
    next_more c.args.row.now c.zone_of-zone.result c.zone_of-zone.ensures _ _ _ c.args.here.now c.loop-next.next-index _ c.loop-next-test.true
    (c.requires.source _ (among_at c.args.here.now c.loop-next.next-index _ c.loop-next-test.true))
    (missed_all c.args.row.now.source c.zone_of-zone.result _ c.loop-next.items.items (c.is_missed.ensures c.if-is_missed.true)) c.loop-next.invariant

pub returns : goal.returns
returns c = all_next c.args.row.now _ _ c.args.here.now c.loop-next.next-index c.loop-next-test.false c.loop-next.invariant
