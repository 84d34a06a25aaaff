use Rattle.std.proofs.Common.{rules}
use Rattle.zone_core.proofs.Both.{both-meets, both-near}
use Rattle.zone_core.proofs.Pairs.{bounds_ext}
use Rattle.zone_core.proofs.ReadBack.{max_back, min_back}
use Rattle.zone_core.proofs.steps.both.Goals as goal

pub returns : goal.returns
returns c =
    let k = c.args.k in
    let o = c.args.o in
    rw (bounds_ext
    (max_back k.a o.a c.max.result (search rules) (search rules) (search rules) c.max.ensures.value)
    (min_back k.b o.b c.min.result (search rules) (search rules) (search rules) c.min.ensures.value)
    (max_back k.c o.c c.max-2.result (search rules) (search rules) (search rules) c.max-2.ensures.value)
    (min_back k.d o.d c.min-2.result (search rules) (search rules) (search rules) c.min-2.ensures.value)
    (max_back k.e o.e c.max-3.result (search rules) (search rules) (search rules) c.max-3.ensures.value)
    (min_back k.f o.f c.min-3.result (search rules) (search rules) (search rules) c.min-3.ensures.value))
    (record { near = both-near k o c.requires.k_near c.requires.o_near; pairs = both-meets k o })
