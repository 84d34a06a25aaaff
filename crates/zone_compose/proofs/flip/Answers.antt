use Rattle.zone_core.proofs.Pairs.{tight-from}
use Rattle.zone_compose.proofs.flip.Goals as goal

pub unwrap-requires : goal.unwrap-requires
unwrap-requires c =
    let pair = tight-from _ c.bounds.ensures.tight in
    let turned = (c.flipped.ensures.pairs pair.0 c.bounds.result.a).1 pair.1 in
    c.tight.ensures.some.1 (record { departure = pair.0; arrival = c.bounds.result.a; related = turned })

pub returns : goal.returns
returns c = rw (← c.bounds.ensures.same) (λ t u.
    let h = rw c.unwrap.ensures at (c.tight.ensures.pairs t u) in
    let f = c.flipped.ensures.pairs t u in
    (λ m. f.0 (h.0 m), λ m. h.1 (f.1 m)))
