use Rattle.std.proofs.Common.{ap, refl, SFits, w64, to_z-of_z, rules, arith}
use Rattle.std.proofs.lemmas.Int.{ints}
use Rattle.itpg_base.specs.Spans.{Span}
use Rattle.wide_witness.proofs.Leading.{arrivals_up, none_departs, some_depart}
use Rattle.wide_witness.proofs.onward.led_by.Goals as goal

pub returns-in_err-zone-clause-points : goal.returns-in_err-zone-clause-points
returns-in_err-zone-clause-points c =
    rw c.from_residual.ensures (none_departs c.args.row.now c.args.run.now c.if-row-run.false c.zone_of.result c.zone_of.ensures _ c.departing_in.ensures c.in_err-zone.was)

pub unwrap-requires : goal.unwrap-requires
unwrap-requires c =
    let first : SFits w64 c.arrivals-first.result.0 = search rules in
    let last : SFits w64 c.arrivals-first.result.1 = search rules in
    let made = simp to_z-of_z at c.new.ensures.ordered in
    let up = arrivals_up c.in_ok-zone.zone _ _ c.arrivals-first.ensures in
    made.1 (omega (arith, ints))

pub returns-clause-points : goal.returns-clause-points
returns-clause-points c =
    let first : SFits w64 c.arrivals-first.result.0 = search rules in
    let last : SFits w64 c.arrivals-first.result.1 = search rules in
    let made = simp to_z-of_z at (rw c.unwrap.ensures at c.new.ensures.value) in
    some_depart c.args.row.now c.args.run.now c.if-row-run.false c.zone_of.result c.zone_of.ensures _ c.departing_in.ensures c.in_ok-zone.zone c.in_ok-zone.was _ _ c.arrivals-first.ensures
    (record { object = c.args.row.now.target; span = c.unwrap.result }) refl (ap (λ (s : Span). s.from) made) (ap (λ (s : Span). s.to) made)
