use Rattle.std.proofs.Common.{ap, SFits, w64, to_z-of_z, rules}
use Rattle.itpg_base.specs.Spans.{Span}
use Rattle.relation_rows.proofs.Arriving.{departs_in}
use Rattle.relation_rows.proofs.times.departure_span.Goals as goal

pub returns-clause-moments : goal.returns-clause-moments
returns-clause-moments c =
    let from : SFits w64 c.args.band.now.from = search rules in
    let to : SFits w64 c.args.band.now.to = search rules in
    let made = simp to_z-of_z at (rw c.unwrap.ensures at c.new.ensures.value) in
    departs_in c.args.band.now c.requires c.unwrap.result (ap (λ (s : Span). s.from) made) (ap (λ (s : Span). s.to) made)
