use Rattle.itpg_base.proofs.Lists.{among_at}
use Rattle.relation_rows.proofs.DirectWays.{no_ways_yet, ways_more, all_ways_told}
use Rattle.relation_rows.proofs.direct.known_ways.Goals as goal

pub loop-row-init : goal.loop-row-init
loop-row-init c = no_ways_yet c.args.rows.now c.args.second.now c.in_ok-ways.ways.items c.in_ok-ways.ensures.items

pub push_from-requires-clause-row : goal.push_from-requires-clause-row
push_from-requires-clause-row c = c.requires.rows _ (among_at c.args.rows.now c.loop-row.row-index _ c.loop-row-test.true)

pub loop-row-preserved : goal.loop-row-preserved
loop-row-preserved c =
    ways_more c.args.rows.now c.args.second.now c.loop-row.row-index _ c.loop-row-test.true _ c.push_from.new.ways.items c.loop-row.invariant
    c.in_ok-push_from.field-0 c.if-not-branch.false c.in_ok-push_from.ensures

pub returns : goal.returns
returns c = all_ways_told c.args.rows.now c.args.second.now c.loop-row.row-index _ c.loop-row-test.false c.loop-row.invariant
