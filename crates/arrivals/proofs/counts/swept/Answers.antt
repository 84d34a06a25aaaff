use Rattle.arrivals.proofs.Swept.{at_first, left_stops, left_fewer, left_few, sweeping_first, sweeping_next, shorter, all_counted, none_counted}
use Rattle.arrivals.proofs.counts.swept.Goals as goal

pub returns-in_default : goal.returns-in_default
returns-in_default c = none_counted c.args.times.now c.args.starts.now c.new-rows.result.items c.requires.starts c.in_default.ensures.value c.new-rows.ensures.items

pub returns-in_default-first : goal.returns-in_default-first
returns-in_default-first c = none_counted c.args.times.now c.args.stops.now c.new-rows.result.items c.requires.stops c.in_default-first.ensures.value c.new-rows.ensures.items

pub first_stretch-last-requires-clause-order : goal.first_stretch-last-requires-clause-order
first_stretch-last-requires-clause-order c =
    (at_first c.args.times.now c.args.starts.now c.args.stops.now c.after_first-begun.result.now c.in-Some.first.now c.requires.times c.requires.starts c.requires.stops c.requires.first c.requires.last c.in-Some.ensures.value c.after_first-begun.ensures).starts

pub first_stretch-last-requires-clause-stops : goal.first_stretch-last-requires-clause-stops
first_stretch-last-requires-clause-stops c = left_stops c.args.times.now c.in-Some.first.now.span.from c.after_first-begun.result.now c.args.stops.now
    (at_first c.args.times.now c.args.starts.now c.args.stops.now c.after_first-begun.result.now c.in-Some.first.now c.requires.times c.requires.starts c.requires.stops c.requires.first c.requires.last c.in-Some.ensures.value c.after_first-begun.ensures)
    c.in-Some-first.stop.now c.in-Some-first.ensures.value

pub first_stretch-last-requires-clause-fewer : goal.first_stretch-last-requires-clause-fewer
first_stretch-last-requires-clause-fewer c = left_fewer c.args.times.now c.in-Some.first.now.span.from c.after_first-begun.result.now c.args.stops.now
    (at_first c.args.times.now c.args.starts.now c.args.stops.now c.after_first-begun.result.now c.in-Some.first.now c.requires.times c.requires.starts c.requires.stops c.requires.first c.requires.last c.in-Some.ensures.value c.after_first-begun.ensures)
    c.requires.times

pub first_stretch-last-requires-clause-few : goal.first_stretch-last-requires-clause-few
first_stretch-last-requires-clause-few c = left_few c.args.times.now c.in-Some.first.now.span.from c.after_first-begun.result.now c.args.stops.now
    (at_first c.args.times.now c.args.starts.now c.args.stops.now c.after_first-begun.result.now c.in-Some.first.now c.requires.times c.requires.starts c.requires.stops c.requires.first c.requires.last c.in-Some.ensures.value c.after_first-begun.ensures)
    c.requires.few

pub still_waiting-waiting-requires : goal.still_waiting-waiting-requires
still_waiting-waiting-requires c =
    (at_first c.args.times.now c.args.starts.now c.args.stops.now c.after_first-begun.result.now c.in-Some.first.now c.requires.times c.requires.starts c.requires.stops c.requires.first c.requires.last c.in-Some.ensures.value c.after_first-begun.ensures).starts

pub loop-stop-init : goal.loop-stop-init
loop-stop-init c = sweeping_first c.args.times.now c.args.starts.now c.args.stops.now c.after_first-begun.result.now c.in-Some.first.now c.in-Some-first.stop.now c.requires.times c.requires.starts
    (at_first c.args.times.now c.args.starts.now c.args.stops.now c.after_first-begun.result.now c.in-Some.first.now c.requires.times c.requires.starts c.requires.stops c.requires.first c.requires.last c.in-Some.ensures.value c.after_first-begun.ensures)
    c.requires.first c.in-Some.ensures.value c.in-Some-first.ensures.value c.first_stretch-last.result c.first_stretch-last.ensures c.still_waiting-waiting.result.now c.still_ending-ending.result.now c.still_waiting-waiting.ensures c.still_ending-ending.ensures
    c.new-rows.result.items c.new-rows.ensures.items

pub next_stretch-next-requires-clause-fewer : goal.next_stretch-next-requires-clause-fewer
next_stretch-next-requires-clause-fewer c = left_fewer c.args.times.now _ c.loop-stop.waiting.now c.loop-stop.ending.now (c.loop-stop.invariant).left c.requires.times

pub next_stretch-next-requires-clause-few : goal.next_stretch-next-requires-clause-few
next_stretch-next-requires-clause-few c = left_few c.args.times.now _ c.loop-stop.waiting.now c.loop-stop.ending.now (c.loop-stop.invariant).left c.requires.few

pub loop-stop-smaller : goal.loop-stop-smaller
loop-stop-smaller c = shorter c.args.times.now c.loop-stop.waiting.now c.loop-stop.ending.now c.loop-stop.rows.items c.loop-stop.last c.loop-stop.invariant c.requires.times c.in-Some-first-2.stop.now c.in-Some-first-2.ensures.value
    c.next_stretch-next.result c.next_stretch-next.ensures c.add.new.rows.items c.in_ok-last.last c.in_ok-last.ensures
    c.still_waiting-waiting-in-Some-first-2.result.now c.still_ending-ending-in-Some-first-2.result.now c.still_waiting-waiting-in-Some-first-2.ensures c.still_ending-ending-in-Some-first-2.ensures

pub loop-stop-preserved : goal.loop-stop-preserved
loop-stop-preserved c = sweeping_next c.args.times.now c.loop-stop.waiting.now c.loop-stop.ending.now c.loop-stop.rows.items c.loop-stop.last c.loop-stop.invariant c.requires.times c.in-Some-first-2.stop.now c.in-Some-first-2.ensures.value
    c.next_stretch-next.result c.next_stretch-next.ensures c.add.new.rows.items c.in_ok-last.last c.in_ok-last.ensures
    c.still_waiting-waiting-in-Some-first-2.result.now c.still_ending-ending-in-Some-first-2.result.now c.still_waiting-waiting-in-Some-first-2.ensures c.still_ending-ending-in-Some-first-2.ensures

pub returns : goal.returns
returns c = all_counted c.args.times.now c.loop-stop.waiting.now c.loop-stop.ending.now c.loop-stop.rows.items c.loop-stop.last c.loop-stop.invariant c.in_default-first-2.ensures.value c.push_some.new.rows.items c.in_ok-push_some.ensures
