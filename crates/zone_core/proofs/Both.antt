-- The bounds that a pair of both zones meets.
use Rattle.std.proofs.Common.{◌↔◌, ℤ}
use Rattle.std.specs.Int.{int_max, int_min}
use Rattle.zone_core.proofs.Numbers.{extremes}
use Rattle.zone_core.specs.declared.Bounds.{Bounds}
use Rattle.zone_core.specs.Zone.{Meets, IsNear, MeetsBoth}

-- of each two bounds the one further in
abbrev pub both_of : Bounds → Bounds → Bounds
both_of k o = record {
  a = int_max k.a o.a;
  b = int_min k.b o.b;
  c = int_max k.c o.c;
  d = int_min k.d o.d;
  e = int_max k.e o.e;
  f = int_min k.f o.f;
}

pub both-near : (k o : Bounds) → IsNear k → IsNear o → IsNear (both_of k o)
both-near k o n m = record {
  a = record { above = omega extremes; below = omega extremes };
  b = record { above = omega extremes; below = omega extremes };
  c = record { above = omega extremes; below = omega extremes };
  d = record { above = omega extremes; below = omega extremes };
  e = record { above = omega extremes; below = omega extremes };
  f = record { above = omega extremes; below = omega extremes };
}

pub both-meets : (k o : Bounds) (t u : ℤ) → Meets (both_of k o) t u ↔ MeetsBoth k o t u
both-meets k o t u = (
  λ m. (
    record {
      from = omega extremes;
      to = omega extremes;
      low = omega extremes;
      high = omega extremes;
      least = omega extremes;
      most = omega extremes;
    },
    record {
      from = omega extremes;
      to = omega extremes;
      low = omega extremes;
      high = omega extremes;
      least = omega extremes;
      most = omega extremes;
    },
  ),
  λ p. record {
    from = omega extremes;
    to = omega extremes;
    low = omega extremes;
    high = omega extremes;
    least = omega extremes;
    most = omega extremes;
  },
)
