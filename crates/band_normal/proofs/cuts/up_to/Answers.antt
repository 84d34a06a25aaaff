use Rattle.zone_core.proofs.Numbers.{extremes}
use Rattle.band_normal.proofs.cuts.up_to.Goals as goal

pub tight-requires : goal.tight-requires
tight-requires c = record {
  a = c.requires.k_near.a;
  b = record { above = omega extremes; below = omega extremes };
  c = c.requires.k_near.c;
  d = c.requires.k_near.d;
  e = c.requires.k_near.e;
  f = c.requires.k_near.f;
}

pub returns : goal.returns
returns c = λ t u. (
  λ h. let m = (c.tight.ensures.pairs t u).0 h in (
    record {
      from = m.from;
      to = omega extremes;
      low = m.low;
      high = m.high;
      least = m.least;
      most = m.most;
    },
    omega extremes,
  ),
  λ p. (c.tight.ensures.pairs t u).1 (record {
    from = p.0.from;
    to = omega extremes;
    low = p.0.low;
    high = p.0.high;
    least = p.0.least;
    most = p.0.most;
  }),
)
