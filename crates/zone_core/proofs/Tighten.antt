-- Tightening: the same pairs, and bounds that are each met where there is a pair.
use Rattle.std.proofs.Common.{ℤ, ◌+ℤ◌, ◌-ℤ◌, ◌≤ℤ◌, Some, None, refl}
use Rattle.std.specs.Int.{int_max, int_min}
use Rattle.zone_core.proofs.Numbers.{extremes, signed}
use Rattle.zone_core.specs.declared.Bounds.{Bounds}
use Rattle.zone_core.specs.Zone.{HaveSamePairs, IsInOrder, IsNear, IsTight, IsZoneOf, Meets}
use Rattle.zone_core.proofs.Pairs.{tight-from}
use Rattle.zone_core.proofs.ZoneOf.{zone_of-none}

-- each bound drawn in by the two others that limit it
abbrev pub tightened_of : Bounds → Bounds
tightened_of k = record {
  a = int_max k.a (k.c -ℤ k.f);
  b = int_min k.b (k.d -ℤ k.e);
  c = int_max k.c (k.a +ℤ k.e);
  d = int_min k.d (k.b +ℤ k.f);
  e = int_max k.e (k.c -ℤ k.b);
  f = int_min k.f (k.d -ℤ k.a);
}

pub int_max-le : (x y t : ℤ) → x ≤ℤ t → y ≤ℤ t → int_max x y ≤ℤ t
int_max-le x y t p q = omega extremes

pub le-int_min : (x y t : ℤ) → t ≤ℤ x → t ≤ℤ y → t ≤ℤ int_min x y
le-int_min x y t p q = omega extremes

pub meets-in_order : (k : Bounds) (t u : ℤ) → Meets k t u → IsInOrder k
meets-in_order k t u m = record {
  departures = omega signed;
  arrivals = omega signed;
  differences = omega signed;
}

pub tightened-meets : (k : Bounds) (t u : ℤ) → Meets k t u → Meets (tightened_of k) t u
tightened-meets k t u m = record {
  from = int_max-le _ _ _ m.from (omega signed);
  to = le-int_min _ _ _ m.to (omega signed);
  low = int_max-le _ _ _ m.low (omega signed);
  high = le-int_min _ _ _ m.high (omega signed);
  least = int_max-le _ _ _ m.least (omega signed);
  most = le-int_min _ _ _ m.most (omega signed);
}

pub tightened-meets_back : (k : Bounds) (t u : ℤ) → Meets (tightened_of k) t u → Meets k t u
tightened-meets_back k t u m = record {
  from = omega extremes;
  to = omega extremes;
  low = omega extremes;
  high = omega extremes;
  least = omega extremes;
  most = omega extremes;
}

-- the bounds leave room for a pair
pub record CanMeet (k : Bounds) : Type 0 where
  pub departures : k.a ≤ℤ k.b
  pub arrivals : k.c ≤ℤ k.d
  pub differences : k.e ≤ℤ k.f
  pub first_high : (k.a +ℤ k.e) ≤ℤ k.d
  pub low_last : k.c ≤ℤ (k.b +ℤ k.f)

pub can_meet : (k : Bounds) → IsInOrder (tightened_of k) → CanMeet k
can_meet k p = record {
  departures = omega extremes;
  arrivals = omega extremes;
  differences = omega extremes;
  first_high = omega extremes;
  low_last = omega extremes;
}

pub tightened-tight : (k : Bounds) → CanMeet k → IsTight (tightened_of k)
tightened-tight k h = record {
  departures = omega extremes;
  arrivals = omega extremes;
  differences = omega extremes;
  first_low = omega extremes;
  low_first = omega extremes;
  last_high = omega extremes;
  high_last = omega extremes;
  low_last = omega extremes;
  first_high = omega extremes;
}

pub tightened-near : (k : Bounds) → IsNear k → CanMeet k → IsNear (tightened_of k)
tightened-near k n h = record {
  a = record { above = omega extremes; below = omega extremes };
  b = record { above = omega extremes; below = omega extremes };
  c = record { above = omega extremes; below = omega extremes };
  d = record { above = omega extremes; below = omega extremes };
  e = record { above = omega extremes; below = omega extremes };
  f = record { above = omega extremes; below = omega extremes };
}

-- tight bounds are the zone of the bounds with the same pairs
pub zone_of_tight : (k o : Bounds) → HaveSamePairs o k → IsTight o → IsZoneOf (Meets k) (Some o)
zone_of_tight k o same tight =
    let pair = tight-from o tight in
    record {
      pairs = same;
      some = (λ h. record { departure = o.a; arrival = pair.0; related = (same _ _).0 pair.1 }, λ p. refl);
    }

-- and bounds out of order have no pair
pub zone_of_disorder : (k o : Bounds) → HaveSamePairs o k → (IsInOrder o → ⊥) → IsZoneOf (Meets k) None
zone_of_disorder k o same disorder = zone_of-none (λ t u m. disorder (meets-in_order o t u ((same t u).1 m)))
