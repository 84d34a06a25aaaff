use Rattle.zone_core.proofs.Numbers.{extremes}
use Rattle.zone_core.proofs.pieces.departing_within.Goals as goal

pub returns-clause-near : goal.returns-clause-near
returns-clause-near c = record {
  a = record { above = omega extremes; below = omega extremes };
  b = record { above = omega extremes; below = omega extremes };
  c = c.requires.k_near.c;
  d = c.requires.k_near.d;
  e = c.requires.k_near.e;
  f = c.requires.k_near.f;
}

pub returns-clause-pairs : goal.returns-clause-pairs
returns-clause-pairs c = λ t u. (
  λ m. (
    record {
      from = omega extremes;
      to = omega extremes;
      low = m.low;
      high = m.high;
      least = m.least;
      most = m.most;
    },
    record { above = omega extremes; below = omega extremes },
  ),
  λ p. record {
    from = omega extremes;
    to = omega extremes;
    low = p.0.low;
    high = p.0.high;
    least = p.0.least;
    most = p.0.most;
  },
)
