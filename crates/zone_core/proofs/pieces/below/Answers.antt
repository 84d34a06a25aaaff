use Rattle.zone_core.proofs.Numbers.{extremes}
use Rattle.zone_core.proofs.pieces.below.Goals as goal

pub tight-requires : goal.tight-requires
tight-requires c = record {
  a = c.requires.k_near.a;
  b = c.requires.k_near.b;
  c = c.requires.k_near.c;
  d = record { above = omega extremes; below = omega extremes };
  e = c.requires.k_near.e;
  f = c.requires.k_near.f;
}

pub returns : goal.returns
returns c = λ t u. (
  λ h. let m = (c.tight.ensures.pairs t u).0 h in (
    record {
      from = m.from;
      to = m.to;
      low = m.low;
      high = omega extremes;
      least = m.least;
      most = m.most;
    },
    omega extremes,
  ),
  λ p. (c.tight.ensures.pairs t u).1 (record {
    from = p.0.from;
    to = p.0.to;
    low = p.0.low;
    high = omega extremes;
    least = p.0.least;
    most = p.0.most;
  }),
)
