use Rattle.relation_rows.proofs.Arriving.{no_times, push_time, few_times, all_times}
use Rattle.relation_rows.proofs.Going.{row_formed}
use Rattle.relation_rows.proofs.times.times_of.Goals as goal

pub time_of-requires : goal.time_of-requires
time_of-requires c = row_formed c.args.rows.now c.loop-row.row-index _ c.loop-row-test.true c.requires

pub loop-row-init : goal.loop-row-init
loop-row-init c = no_times c.args.side c.args.rows.now _ c.in_ok-times.ensures.items

pub loop-row-preserved : goal.loop-row-preserved
loop-row-preserved c =
    let pushed = c.in_ok-push.ensures.items in
    push_time c.args.side c.args.rows.now c.loop-row.row-index _ c.loop-row-test.true c.loop-row.times.items c.loop-row.invariant c.time_of.result c.time_of.ensures.times c.time_of.ensures.span _ pushed

pub runs_of-requires : goal.runs_of-requires
runs_of-requires c = c.loop-row.invariant.spans

pub returns-clause-times : goal.returns-clause-times
returns-clause-times c = all_times c.args.side c.args.rows.now c.loop-row.row-index c.loop-row.times.items c.loop-row-test.false c.loop-row.invariant c.runs_of.result c.runs_of.ensures.times

pub returns-clause-few : goal.returns-clause-few
returns-clause-few c = few_times c.args.side c.args.rows.now c.loop-row.row-index c.loop-row.times.items c.loop-row.auto.row-index-end c.loop-row.invariant c.runs_of.result c.runs_of.ensures.few
