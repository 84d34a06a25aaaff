-- The composed bounds have exactly the pairs with a middle moment.
use Rattle.std.proofs.Common.{◌≡◌, ℤ, ◌+ℤ◌, ◌-ℤ◌, ◌≤ℤ◌, ◌<ℤ◌}
use Rattle.std.specs.Int.{int_max, int_min}
use Rattle.zone_core.proofs.Numbers.{extremes, signed}
use Rattle.zone_core.proofs.Tighten.{int_max-le}
use Rattle.zone_core.specs.declared.Bounds.{Bounds}
use Rattle.zone_core.specs.Zone.{IsNear, IsTight, Meets, Within, difference_reach}
use Rattle.zone_compose.specs.declared.Middle.{Middle}
use Rattle.zone_compose.specs.Compose.{AreShared, HasMiddle}

-- the bounds of the pairs with a middle moment among those that are shared
abbrev pub composed_of : Bounds → Bounds → Middle → Bounds
composed_of x y m = record {
  a = int_max x.a (m.low -ℤ x.f);
  b = int_min x.b (m.high -ℤ x.e);
  c = int_max y.c (m.low +ℤ y.e);
  d = int_min y.d (m.high +ℤ y.f);
  e = int_max (x.e +ℤ y.e) (y.c -ℤ x.b);
  f = int_min (x.f +ℤ y.f) (y.d -ℤ x.a);
}

-- ---- the moments that can stand in the middle

pub shared-is : (x y : Bounds) (low high : ℤ) → low ≡ int_max x.c y.a → high ≡ int_min x.d y.b
    → AreShared x y (record { low = low; high = high })
shared-is x y low high el eh s = (
  λ m. (
    record { above = omega extremes; below = omega extremes },
    record { above = omega extremes; below = omega extremes },
  ),
  λ p. record { above = omega extremes; below = omega extremes },
)

-- the shared moments, as inequalities between their ends
record Ends (x y : Bounds) (m : Middle) : Type 0 where
  after_x : x.c ≤ℤ m.low
  after_y : y.a ≤ℤ m.low
  before_x : m.high ≤ℤ x.d
  before_y : m.high ≤ℤ y.b

ends : (x y : Bounds) (m : Middle) → AreShared x y m → m.low ≤ℤ m.high → Ends x y m
ends x y m shared order =
    let low = (shared m.low).0 (record { above = omega signed; below = order }) in
    let high = (shared m.high).0 (record { above = order; below = omega signed }) in
    record {
      after_x = low.0.above;
      after_y = low.1.above;
      before_x = high.0.below;
      before_y = high.1.below;
    }

-- with none of them no pair has a middle
pub no_middle : (x y : Bounds) (m : Middle) → AreShared x y m → m.high <ℤ m.low
    → (t u : ℤ) → HasMiddle x y t u → ⊥
no_middle x y m shared disorder t u h =
    let l = h.left in
    let r = h.right in
    let between = (shared h.middle).1 (record { above = l.low; below = l.high }, record { above = r.from; below = r.to }) in
    omega signed

-- ---- a moment at or above three others, and at or below three

record Between3 (x y z p q r : ℤ) : Type 0 where
  moment : ℤ
  x_le : x ≤ℤ moment
  y_le : y ≤ℤ moment
  z_le : z ≤ℤ moment
  le_p : moment ≤ℤ p
  le_q : moment ≤ℤ q
  le_r : moment ≤ℤ r

between3 : (x y z p q r : ℤ)
    → x ≤ℤ p → x ≤ℤ q → x ≤ℤ r → y ≤ℤ p → y ≤ℤ q → y ≤ℤ r → z ≤ℤ p → z ≤ℤ q → z ≤ℤ r
    → Between3 x y z p q r
between3 x y z p q r xp xq xr yp yq yr zp zq zr = record {
  moment = int_max x (int_max y z);
  x_le = omega extremes;
  y_le = omega extremes;
  z_le = omega extremes;
  le_p = int_max-le _ _ _ xp (int_max-le _ _ _ yp zp);
  le_q = int_max-le _ _ _ xq (int_max-le _ _ _ yq zq);
  le_r = int_max-le _ _ _ xr (int_max-le _ _ _ yr zr);
}

-- ---- the composed bounds

pub composed-middle : (x y : Bounds) (m : Middle) → AreShared x y m → m.low ≤ℤ m.high
    → IsTight x → IsTight y → (t u : ℤ) → Meets (composed_of x y m) t u → HasMiddle x y t u
composed-middle x y m shared order hx hy t u meets =
    let e = ends x y m shared order in
    let s = between3 m.low (t +ℤ x.e) (u -ℤ y.f) m.high (t +ℤ x.f) (u -ℤ y.e)
    order (omega extremes) (omega extremes)
    (omega extremes) (omega signed) (omega extremes)
    (omega extremes) (omega extremes) (omega signed) in
    record {
      middle = s.moment;
      left = record {
        from = omega extremes;
        to = omega extremes;
        low = omega signed;
        high = omega signed;
        least = omega signed;
        most = omega signed;
      };
      right = record {
        from = omega signed;
        to = omega signed;
        low = omega extremes;
        high = omega extremes;
        least = omega signed;
        most = omega signed;
      };
    }

pub middle-composed : (x y : Bounds) (m : Middle) → AreShared x y m → IsTight x → IsTight y → (t u : ℤ)
    → HasMiddle x y t u → Meets (composed_of x y m) t u
middle-composed x y m shared hx hy t u h =
    let l = h.left in
    let r = h.right in
    let between = (shared h.middle).1 (record { above = l.low; below = l.high }, record { above = r.from; below = r.to }) in
    record {
      from = omega extremes;
      to = omega extremes;
      low = omega extremes;
      high = omega extremes;
      least = omega extremes;
      most = omega extremes;
    }

pub composed-near : (x y : Bounds) (m : Middle) → AreShared x y m → m.low ≤ℤ m.high
    → IsTight x → IsTight y → IsNear x → IsNear y → IsNear (composed_of x y m)
composed-near x y m shared order hx hy nx ny =
    let e = ends x y m shared order in
    record {
      a = record { above = omega extremes; below = omega extremes };
      b = record { above = omega extremes; below = omega extremes };
      c = record { above = omega extremes; below = omega extremes };
      d = record { above = omega extremes; below = omega extremes };
      e = record { above = omega extremes; below = omega extremes };
      f = record { above = omega extremes; below = omega extremes };
    }

-- the ends of the shared moments are near, as the bounds that they come from
pub shared-low_near : (x y : Bounds) (m : Middle) → AreShared x y m → m.low ≤ℤ m.high
    → IsNear x → Within difference_reach m.low
shared-low_near x y m shared order nx =
    let e = ends x y m shared order in
    record { above = omega signed; below = omega signed }

pub shared-high_near : (x y : Bounds) (m : Middle) → AreShared x y m → m.low ≤ℤ m.high
    → IsNear x → Within difference_reach m.high
shared-high_near x y m shared order nx =
    let e = ends x y m shared order in
    record { above = omega signed; below = omega signed }
