use Rattle.std.proofs.Common.{◌∙◌, ap, SFits, w64, to_z-of_z, rules, arith}
use Rattle.std.proofs.lemmas.Int.{ints}
use Rattle.itpg_base.specs.Spans.{Span}
use Rattle.band_normal.specs.Bands.{end_at}
use Rattle.relation_rows.proofs.Arriving.{arrivals_ordered, arrives_in}
use Rattle.relation_rows.proofs.times.arrival_span.Goals as goal

pub at-requires-2 : goal.at-requires-2
at-requires-2 c =
    let to : SFits w64 c.args.band.now.to = search rules in
    let near = c.requires.high c.args.band.now.to c.requires.span (omega (arith, ints)) in
    let fits : SFits w64 (end_at c.args.band.now.high c.args.band.now.to) = omega (arith, ints) in
    simp to_z-of_z fits

pub unwrap-requires : goal.unwrap-requires
unwrap-requires c =
    let from : SFits w64 c.args.band.now.from = search rules in
    let to : SFits w64 c.args.band.now.to = search rules in
    let first : SFits w64 c.at.result = search rules in
    let last : SFits w64 c.at-2.result = search rules in
    let low = simp to_z-of_z at c.at.ensures in
    let high = simp to_z-of_z at c.at-2.ensures in
    let made = simp to_z-of_z at c.new.ensures.ordered in
    let up = arrivals_ordered c.args.band.now c.requires in
    made.1 (omega (arith, ints))

pub returns-clause-moments : goal.returns-clause-moments
returns-clause-moments c =
    let from : SFits w64 c.args.band.now.from = search rules in
    let to : SFits w64 c.args.band.now.to = search rules in
    let first : SFits w64 c.at.result = search rules in
    let last : SFits w64 c.at-2.result = search rules in
    let low = simp to_z-of_z at c.at.ensures in
    let high = simp to_z-of_z at c.at-2.ensures in
    let made = simp to_z-of_z at (rw c.unwrap.ensures at c.new.ensures.value) in
    arrives_in c.args.band.now c.requires c.unwrap.result (ap (λ (s : Span). s.from) made ∙ low) (ap (λ (s : Span). s.to) made ∙ high)
