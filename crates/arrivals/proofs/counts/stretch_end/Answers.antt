use Rattle.std.proofs.Common.{ℤ, pos, ◌-ℤ◌, ◌≡◌, SFits, w64, to_z, of_z, to_z-of_z, rules, arith, sym, ◌∙◌, subst}
use Rattle.std.proofs.lemmas.Int.{ints}
use Rattle.arrivals.specs.Sweeping.{IsStretchEnd}
use Rattle.arrivals.proofs.Swept.{ends_at_stop, ends_before_start, first_waits}
use Rattle.arrivals.proofs.counts.stretch_end.Goals as goal

pub returns-then-to-from : goal.returns-then-to-from
returns-then-to-from c =
    let a : SFits w64 c.to-2.result = search rules in
    let b : SFits w64 c.from.result = search rules in
    let d : SFits w64 c.to-then-to-from.result = search rules in
    let t = simp to_z-of_z at c.if-to-from.true in
    let e = c.to-2.ensures.value in
    let f = c.from.ensures.value in
    subst (λ (v : ℤ). IsStretchEnd c.args.at c.args.waiting.now c.args.stop.now v) (sym (to_z-of_z {w = w64} {z = c.to-then-to-from.result} d ∙ c.to-then-to-from.ensures.value))
    (ends_at_stop c.args.at c.args.waiting.now c.args.stop.now c.in-Some.row.now c.requires.order c.in-Some.ensures.value c.requires.stops (omega (arith, ints)))

pub overflow_sub-result : goal.overflow_sub-result
overflow_sub-result c =
    let a : SFits w64 c.args.at = c.ranges.at in
    let b : SFits w64 c.from-2.result = search rules in
    let f = c.from-2.ensures.value in
    let l = first_waits c.args.at c.args.waiting.now c.in-Some.row.now c.in-Some.ensures.value c.requires.waits in
    simp to_z-of_z (omega (arith, ints))

pub returns : goal.returns
returns c =
    let a : SFits w64 c.args.at = c.ranges.at in
    let b : SFits w64 c.from-2.result = search rules in
    let g : SFits w64 c.to-2.result = search rules in
    let h : SFits w64 c.from.result = search rules in
    let f = c.from-2.ensures.value in
    let k = c.to-2.ensures.value in
    let m = c.from.ensures.value in
    let t = simp to_z-of_z at c.if-to-from.false in
    let l = first_waits c.args.at c.args.waiting.now c.in-Some.row.now c.in-Some.ensures.value c.requires.waits in
    let e : to_z w64 (of_z w64 (to_z w64 (of_z w64 c.from-2.result) -ℤ pos 1)) ≡ c.in-Some.row.now.span.from -ℤ pos 1 = (let d : SFits w64 (c.from-2.result -ℤ pos 1) = omega (arith, ints) in simp to_z-of_z (omega (arith, ints))) in
    subst (λ (v : ℤ). IsStretchEnd c.args.at c.args.waiting.now c.args.stop.now v) (sym e)
    (ends_before_start c.args.at c.args.waiting.now c.args.stop.now c.in-Some.row.now c.requires.order c.in-Some.ensures.value l (omega (arith, ints)))
