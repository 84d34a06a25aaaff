use Rattle.std.proofs.Common.{◌<◌, ◌≤◌, length, subst}
use Rattle.condition_eval.proofs.Points.{runs_start, runs_taken, runs_left, runs_end}
use Rattle.condition_eval.proofs.leaves.push_runs.Goals.{in-Some+in_ok-push, in_default}
use Rattle.condition_eval.proofs.leaves.push_runs.Goals as goal

pub loop-place-init : goal.loop-place-init
loop-place-init c = runs_start c.args.object c.args.value.now c.args.values.now c.args.rows.now.items

pub loop-place-preserved : goal.loop-place-preserved
loop-place-preserved c =
    let runs = c.args.values.now in
    let lt : c.loop-place.place < length runs = subst (λ n. c.loop-place.place < n) c.count-place-end.ensures.value c.loop-place-test.true in
    elim c.match-span_with.branch [
      | in-Some+in_ok-push w ↦
          rw w.rows-is (runs_taken c.args.object c.args.value.now runs c.args.rows.now.items c.loop-place.rows.items c.loop-place.place c.span_with.result lt c.span_with.ensures c.loop-place.invariant
          _ w.in-Some.span w.in-Some.is w.in_ok-push.ensures.items)
      | in_default w ↦
          rw w.rows-is (runs_left c.args.object c.args.value.now runs c.args.rows.now.items c.loop-place.rows.items c.loop-place.place c.span_with.result lt c.span_with.ensures c.loop-place.invariant w.in_default.is)
    ]

pub returns : goal.returns
returns c =
    let runs = c.args.values.now in
    let le : length runs ≤ c.loop-place.place = subst (λ n. n ≤ c.loop-place.place) c.count-place-end.ensures.value c.loop-place-test.false in
    runs_end c.args.object c.args.value.now runs c.args.rows.now.items c.loop-place.rows.items c.loop-place.place c.count-place-end.ensures.coalesced le c.loop-place.invariant
