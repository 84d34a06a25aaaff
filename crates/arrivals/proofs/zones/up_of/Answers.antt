use Rattle.arrivals.proofs.Ups.{relaxed_some, up_pairs}
use Rattle.arrivals.proofs.zones.up_of.Goals as goal

pub unwrap-requires : goal.unwrap-requires
unwrap-requires c = c.tight.ensures.some.1 (relaxed_some c.bounds-bounds.result c.bounds-bounds.ensures.near c.bounds-bounds.ensures.tight)

pub returns : goal.returns
returns c = rw (← c.bounds-bounds.ensures.same) (λ t u.
    let h = rw c.unwrap.ensures at (c.tight.ensures.pairs t u) in
    let f = up_pairs c.bounds-bounds.result c.bounds-bounds.ensures.near c.bounds-bounds.ensures.tight t u in
    (λ m. f.0 (h.0 m), λ m. h.1 (f.1 m)))
