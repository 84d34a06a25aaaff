use Rattle.zone_core.proofs.Numbers.{extremes}
use Rattle.zone_core.proofs.pieces.arriving_within.Goals as goal

pub returns-clause-near : goal.returns-clause-near
returns-clause-near c = record {
  a = c.requires.k_near.a;
  b = c.requires.k_near.b;
  c = record { above = omega extremes; below = omega extremes };
  d = record { above = omega extremes; below = omega extremes };
  e = c.requires.k_near.e;
  f = c.requires.k_near.f;
}

pub returns-clause-pairs : goal.returns-clause-pairs
returns-clause-pairs c = λ t u. (
  λ m. (
    record {
      from = m.from;
      to = m.to;
      low = omega extremes;
      high = omega extremes;
      least = m.least;
      most = m.most;
    },
    record { above = omega extremes; below = omega extremes },
  ),
  λ p. record {
    from = p.0.from;
    to = p.0.to;
    low = omega extremes;
    high = omega extremes;
    least = p.0.least;
    most = p.0.most;
  },
)
