use Rattle.arrivals.proofs.Ups.{line_pairs}
use Rattle.arrivals.proofs.zones.line_of.Goals as goal

pub returns : goal.returns
returns c = λ t u.
    let h = c.zone_of.ensures t u in
    let f = line_pairs c.args.band.now t u in
    (λ m. f.0 (h.0 m), λ m. h.1 (f.1 m))
