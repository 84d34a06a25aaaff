use Rattle.std.proofs.Common.{◌≡◌, pos, ◌+ℤ◌, ◌<ℤ◌, Some, subst, sym, arith, ◌∙◌}
use Rattle.std.proofs.lemmas.Int.{ints}
use Rattle.itpg_base.specs.Spans.{Span}
use Rattle.interval_set.proofs.Walk.{touching_end, apart_end}
use Rattle.interval_set.proofs.sweep.place_at_end.Goals as goal

pub returns-in-Some-clause-places : goal.returns-in-Some-clause-places
returns-in-Some-clause-places c =
    let value = c.from-from.ensures.value in
    let test = c.if-not-ends_apart_before.ensures in
    touching_end c.args.spans.now c.args.s c.requires.coalesced c.from-from.ensures.ordered c.requires.later c.in-Some.last.now c.in-Some.ensures.value (λ far. absurd (omega (arith, ints, test)))

pub returns-in_default-clause-places : goal.returns-in_default-clause-places
returns-in_default-clause-places c =
    let value = c.from-from.ensures.value in
    let test = c.if-not-ends_apart_before.ensures in
    let last = c.in-Some.last.now in
    let far : (last.to +ℤ pos 1) <ℤ c.args.s.from = omega (arith, ints, test) in
    apart_end c.args.spans.now c.args.s c.requires.coalesced c.from-from.ensures.ordered c.requires.later
    (λ x is. let e = c.in-Some.ensures.value in let same : last ≡ x = some_same (e ∙ sym is) in subst (λ (y : Span). (y.to +ℤ pos 1) <ℤ c.args.s.from) same far)
  where
    some_same : {x y : Span} → Some x ≡ Some y → x ≡ y
    some_same e = cc
