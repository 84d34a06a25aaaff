use Rattle.std.proofs.Common.{◌<◌, ◌≤◌, refl, sym, subst, length, true≢false, ◌∙◌}
use Rattle.interval_set.proofs.WithValue.{some_moment, none_yet, no_moment, spans_end}
use Rattle.interval_set.proofs.values.ValuedSet.has.Goals as goal

pub returns-then-is_some : goal.returns-then-is_some
returns-then-is_some c =
    let xs = c.args.self.now in
    let lt : c.loop-place.place < length xs = subst (λ n. c.loop-place.place < n) c.count-place-end.ensures.value c.loop-place-test.true in
    (λ e. some_moment c.args.value.now xs c.loop-place.place c.span_with.result lt c.span_with.ensures c.count-place-end.ensures.coalesced (sym c.is_some.ensures ∙ c.if-is_some.true), λ h. refl)

pub loop-place-preserved : goal.loop-place-preserved
loop-place-preserved c =
    let xs = c.args.self.now in
    let lt : c.loop-place.place < length xs = subst (λ n. c.loop-place.place < n) c.count-place-end.ensures.value c.loop-place-test.true in
    none_yet c.args.value.now xs c.loop-place.place c.span_with.result lt c.span_with.ensures (sym c.is_some.ensures ∙ c.if-is_some.false) c.loop-place.invariant

pub returns : goal.returns
returns c =
    let xs = c.args.self.now in
    let le : length xs ≤ c.loop-place.place = subst (λ n. n ≤ c.loop-place.place) c.count-place-end.ensures.value c.loop-place-test.false in
    (λ e. absurd (true≢false (sym e)), λ h. absurd (no_moment c.args.value.now xs c.count-place-end.ensures.coalesced (sym (spans_end c.args.value.now xs c.loop-place.place le) ∙ c.loop-place.invariant) h))
