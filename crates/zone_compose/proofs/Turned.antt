-- The bounds of pairs that are turned round.
use Rattle.std.proofs.Common.{◌≡◌, ◌↔◌, ℤ, pos, neg_ℤ, ◌-ℤ◌}
use Rattle.zone_core.proofs.Numbers.{signed}
use Rattle.zone_core.proofs.ReadBack.{reread}
use Rattle.zone_core.specs.declared.Bounds.{Bounds}
use Rattle.zone_core.specs.Zone.{Meets, IsNear, Within, difference_reach}

-- departures and arrivals in each other's place
abbrev pub flipped_of : Bounds → Bounds
flipped_of k = record { a = k.c; b = k.d; c = k.a; d = k.b; e = neg_ℤ k.f; f = neg_ℤ k.e }

pub flipped-meets : (k : Bounds) (t u : ℤ) → Meets (flipped_of k) t u ↔ Meets k u t
flipped-meets k t u = (
  λ m. record {
    from = m.low;
    to = m.high;
    low = m.from;
    high = m.to;
    least = omega signed;
    most = omega signed;
  },
  λ m. record {
    from = m.low;
    to = m.high;
    low = m.from;
    high = m.to;
    least = omega signed;
    most = omega signed;
  },
)

pub flipped-near : (k : Bounds) → IsNear k → IsNear (flipped_of k)
flipped-near k n = record {
  a = n.c;
  b = n.d;
  c = n.a;
  d = n.b;
  e = record { above = omega signed; below = omega signed };
  f = record { above = omega signed; below = omega signed };
}

pub neg_back : (x : ℤ) → Within difference_reach x → reread (pos 0 -ℤ reread x) ≡ neg_ℤ x
neg_back x n = omega signed
