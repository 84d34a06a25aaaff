use Rattle.std.proofs.Common.{rules, w64, to_z-of_z}
use Rattle.zone_core.proofs.Pairs.{bounds_ext}
use Rattle.zone_core.proofs.ReadBack.{moment-difference}
use Rattle.zone_compose.proofs.Turned.{neg_back}
use Rattle.arrivals.proofs.Turning.{reversed_meets, reversed_near}
use Rattle.arrivals.proofs.zones.reversed.Goals as goal

pub returns : goal.returns
returns c =
    let k = c.args.k in
    rw (bounds_ext
    (neg_back k.d (moment-difference k.d c.requires.d)) (neg_back k.c (moment-difference k.c c.requires.c))
    (neg_back k.b (moment-difference k.b c.requires.b)) (neg_back k.a (moment-difference k.a c.requires.a))
    (to_z-of_z {w = w64} {z = k.e} (search rules)) (to_z-of_z {w = w64} {z = k.f} (search rules)))
    (record { near = reversed_near k c.requires; pairs = reversed_meets k })
