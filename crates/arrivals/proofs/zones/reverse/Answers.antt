use Rattle.arrivals.proofs.Turning.{reversed_some}
use Rattle.arrivals.proofs.zones.reverse.Goals as goal

pub unwrap-requires : goal.unwrap-requires
unwrap-requires c = c.tight.ensures.some.1 (reversed_some c.bounds.result c.reversed.result c.bounds.ensures.tight c.reversed.ensures.pairs)

pub returns : goal.returns
returns c = rw (← c.bounds.ensures.same) (λ t u.
    let h = rw c.unwrap.ensures at (c.tight.ensures.pairs t u) in
    let f = c.reversed.ensures.pairs t u in
    (λ m. f.0 (h.0 m), λ m. h.1 (f.1 m)))
