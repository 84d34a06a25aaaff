-- Tight bounds: a pair that meets each of them, and that the pairs determine them.
use Rattle.std.proofs.Common.{◌≡◌, ℤ, ◌+ℤ◌, ◌-ℤ◌, ◌≤ℤ◌}
use Rattle.std.specs.Int.{int_max}
use Rattle.zone_core.proofs.Numbers.{extremes, signed}
use Rattle.zone_core.specs.declared.Bounds.{Bounds}
use Rattle.zone_core.specs.Zone.{Meets, IsTight, IsMet, HaveSamePairs, IsDeterminedByPairs}

-- ---- each bound of tight bounds is met, by a pair

pub tight-from : (k : Bounds) → IsTight k → (u : ℤ) × Meets k k.a u
tight-from k h = (
  int_max k.c (k.a +ℤ k.e),
  record {
    from = omega extremes;
    to = omega extremes;
    low = omega extremes;
    high = omega extremes;
    least = omega extremes;
    most = omega extremes;
  },
)

pub tight-to : (k : Bounds) → IsTight k → (u : ℤ) × Meets k k.b u
tight-to k h = (
  int_max k.c (k.b +ℤ k.e),
  record {
    from = omega extremes;
    to = omega extremes;
    low = omega extremes;
    high = omega extremes;
    least = omega extremes;
    most = omega extremes;
  },
)

pub tight-low : (k : Bounds) → IsTight k → (t : ℤ) × Meets k t k.c
tight-low k h = (
  int_max k.a (k.c -ℤ k.f),
  record {
    from = omega extremes;
    to = omega extremes;
    low = omega extremes;
    high = omega extremes;
    least = omega extremes;
    most = omega extremes;
  },
)

pub tight-high : (k : Bounds) → IsTight k → (t : ℤ) × Meets k t k.d
tight-high k h = (
  int_max k.a (k.d -ℤ k.f),
  record {
    from = omega extremes;
    to = omega extremes;
    low = omega extremes;
    high = omega extremes;
    least = omega extremes;
    most = omega extremes;
  },
)

pub tight-least : (k : Bounds) → IsTight k → (t : ℤ) × Meets k t (t +ℤ k.e)
tight-least k h = (
  int_max k.a (k.c -ℤ k.e),
  record {
    from = omega extremes;
    to = omega extremes;
    low = omega extremes;
    high = omega extremes;
    least = omega extremes;
    most = omega extremes;
  },
)

pub tight-most : (k : Bounds) → IsTight k → (t : ℤ) × Meets k t (t +ℤ k.f)
tight-most k h = (
  int_max k.a (k.c -ℤ k.f),
  record {
    from = omega extremes;
    to = omega extremes;
    low = omega extremes;
    high = omega extremes;
    least = omega extremes;
    most = omega extremes;
  },
)

pub tight-met : (k : Bounds) → IsTight k → IsMet k
tight-met k h = record {
  from = tight-from k h;
  to = tight-to k h;
  low = tight-low k h;
  high = tight-high k h;
  least = tight-least k h;
  most = tight-most k h;
}

-- and bounds that are each met are tight
pub met-tight : (k : Bounds) → IsMet k → IsTight k
met-tight k m =
    let from : Meets k k.a m.from.0 = m.from.1 in
    let to : Meets k k.b m.to.0 = m.to.1 in
    let low : Meets k m.low.0 k.c = m.low.1 in
    let high : Meets k m.high.0 k.d = m.high.1 in
    let least : Meets k m.least.0 (m.least.0 +ℤ k.e) = m.least.1 in
    let most : Meets k m.most.0 (m.most.0 +ℤ k.f) = m.most.1 in
    record {
      departures = omega (signed, from);
      arrivals = omega (signed, from);
      differences = omega (signed, from);
      first_low = omega (signed, low);
      low_first = omega (signed, from);
      last_high = omega (signed, to);
      high_last = omega (signed, high);
      low_last = omega (signed, least);
      first_high = omega (signed, most);
    }

-- ---- bounds and the pairs that meet them

-- each bound of k is at or inside the same bound of o
pub record IsWithin (k o : Bounds) : Type 0 where
  pub a : o.a ≤ℤ k.a
  pub b : k.b ≤ℤ o.b
  pub c : o.c ≤ℤ k.c
  pub d : k.d ≤ℤ o.d
  pub e : o.e ≤ℤ k.e
  pub f : k.f ≤ℤ o.f

pub within-pairs : (k o : Bounds) → IsWithin k o → (t u : ℤ) → Meets k t u → Meets o t u
within-pairs k o w t u m = record {
  from = omega signed;
  to = omega signed;
  low = omega signed;
  high = omega signed;
  least = omega signed;
  most = omega signed;
}

pub pairs-within : (k o : Bounds) → IsTight k → ((t u : ℤ) → Meets k t u → Meets o t u) → IsWithin k o
pairs-within k o h all =
    let from = tight-from k h in
    let to = tight-to k h in
    let low = tight-low k h in
    let high = tight-high k h in
    let least = tight-least k h in
    let most = tight-most k h in
    let m_least : Meets o least.0 (least.0 +ℤ k.e) = all _ _ least.1 in
    let m_most : Meets o most.0 (most.0 +ℤ k.f) = all _ _ most.1 in
    record {
      a = (all _ _ from.1).from;
      b = (all _ _ to.1).to;
      c = (all _ _ low.1).low;
      d = (all _ _ high.1).high;
      e = omega (signed, m_least.least);
      f = omega (signed, m_most.most);
    }

abbrev pub six_bounds : ℤ → ℤ → ℤ → ℤ → ℤ → ℤ → Bounds
six_bounds a b c d e f = record { a = a; b = b; c = c; d = d; e = e; f = f }

-- six equal bounds are the same bounds
pub bounds_ext : {a a' b b' c c' d d' e e' f f' : ℤ} → a ≡ a' → b ≡ b' → c ≡ c' → d ≡ d' → e ≡ e' → f ≡ f'
    → six_bounds a b c d e f ≡ six_bounds a' b' c' d' e' f'
bounds_ext ea eb ec ed ee ef = cc

le_antisym : (x y : ℤ) → x ≤ℤ y → y ≤ℤ x → x ≡ y
le_antisym x y h g = omega signed

-- bounds that lie within each other are the same
pub within-both_ways : (k o : Bounds) → IsWithin k o → IsWithin o k → k ≡ o
within-both_ways k o h g = bounds_ext
    (le_antisym _ _ g.a h.a) (le_antisym _ _ h.b g.b)
    (le_antisym _ _ g.c h.c) (le_antisym _ _ h.d g.d)
    (le_antisym _ _ g.e h.e) (le_antisym _ _ h.f g.f)

-- tight bounds with the same pairs are the same
pub same_pairs : (k o : Bounds) → IsTight k → IsTight o → HaveSamePairs k o → k ≡ o
same_pairs k o hk ho same =
    within-both_ways k o (pairs-within k o hk (λ t u m. (same t u).0 m)) (pairs-within o k ho (λ t u m. (same t u).1 m))

pub tight-determined : (k : Bounds) → IsTight k → IsDeterminedByPairs k
tight-determined k h = λ o met same. same_pairs o k (met-tight o met) h same
