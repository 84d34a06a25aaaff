use Rattle.std.proofs.Common.{pos, ◌-ℤ◌, ◌<ℤ◌, true≢false, sym, SFits, w64, rules, arith}
use Rattle.std.proofs.lemmas.Int.{ints, to_z-of_z, by_lt_z}
use Rattle.interval_set.proofs.Walk.{gap_stretch}
use Rattle.interval_set.proofs.sweep.stretch.Goals as goal

pub returns-in-Some-2 : goal.returns-in-Some-2
returns-in-Some-2 c =
    let at_fits : SFits w64 c.args.at = c.ranges.at in
    let fits : SFits w64 c.from.result = search rules in
    let test = simp to_z-of_z at c.if-begins_by.ensures in
    let span = c.in-Some.span.now in
    let before : c.args.at <ℤ span.from = by_lt_z c.args.at span.from (λ lt. lt) (λ le. absurd (true≢false (sym (test.1 le)))) in
    let value = c.from.ensures.value in
    let less : SFits w64 (c.from.result -ℤ pos 1) = omega (arith, ints) in
    simp to_z-of_z (rw value (gap_stretch c.args.spans.now span c.args.at c.requires.coalesced c.in-Some.ensures.value before))
