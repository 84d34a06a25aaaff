use Rattle.std.proofs.Common.{◌<◌, ◌≤◌, sym, subst, length, ◌∙◌}
use Rattle.itpg_base.specs.Graphs.{RunsHave}
use Rattle.itpg_base.specs.Spans.{IsCoalesced}
use Rattle.interval_set.specs.Runs.{AreRuns}
use Rattle.interval_set.proofs.WithValue.{spans_runs, spans_taken, spans_kept, spans_end}
use Rattle.interval_set.proofs.values.ValuedSet.places.Goals.{in-Some+in_ok-push, in_default}
use Rattle.interval_set.proofs.values.ValuedSet.places.Goals as goal

pub loop-place-preserved : goal.loop-place-preserved
loop-place-preserved c =
    let xs = c.args.self.now in
    let lt : c.loop-place.place < length xs = subst (λ n. c.loop-place.place < n) c.count-place-end.ensures.value c.loop-place-test.true in
    elim c.match-span_with.branch [
      | in-Some+in_ok-push w ↦
          rw w.spans-is (spans_taken c.args.value xs c.loop-place.place c.span_with.result lt c.span_with.ensures c.loop-place.spans.items _ w.in-Some.span w.in-Some.is c.loop-place.invariant w.in_ok-push.ensures.items)
      | in_default w ↦ rw w.spans-is (c.loop-place.invariant ∙ spans_kept c.args.value xs c.loop-place.place c.span_with.result lt c.span_with.ensures w.in_default.is)
    ]

pub from_spans-requires : goal.from_spans-requires
from_spans-requires c =
    let xs = c.args.self.now in
    let le : length xs ≤ c.loop-place.place = subst (λ n. n ≤ c.loop-place.place) c.count-place-end.ensures.value c.loop-place-test.false in
    let runs = spans_runs c.args.value xs c.count-place-end.ensures.coalesced in
    subst IsCoalesced (sym (c.loop-place.invariant ∙ spans_end c.args.value xs c.loop-place.place le)) runs.coalesced

pub returns : goal.returns
returns c =
    let xs = c.args.self.now in
    let le : length xs ≤ c.loop-place.place = subst (λ n. n ≤ c.loop-place.place) c.count-place-end.ensures.value c.loop-place-test.false in
    rw c.from_spans.ensures
    (subst (AreRuns (λ t. RunsHave xs t c.args.value)) (sym (c.loop-place.invariant ∙ spans_end c.args.value xs c.loop-place.place le)) (spans_runs c.args.value xs c.count-place-end.ensures.coalesced))
