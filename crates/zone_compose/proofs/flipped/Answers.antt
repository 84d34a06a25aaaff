use Rattle.std.proofs.Common.{rules, w64, to_z-of_z}
use Rattle.zone_core.proofs.Pairs.{bounds_ext}
use Rattle.zone_compose.proofs.Turned.{flipped-meets, flipped-near, neg_back}
use Rattle.zone_compose.proofs.flipped.Goals as goal

pub returns : goal.returns
returns c =
    let k = c.args.k in
    rw (bounds_ext
    (to_z-of_z {w = w64} {z = k.c} (search rules)) (to_z-of_z {w = w64} {z = k.d} (search rules))
    (to_z-of_z {w = w64} {z = k.a} (search rules)) (to_z-of_z {w = w64} {z = k.b} (search rules))
    (neg_back k.f c.requires.f) (neg_back k.e c.requires.e))
    (record { near = flipped-near k c.requires; pairs = flipped-meets k })
