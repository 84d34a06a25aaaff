-- Time turned round.
use Rattle.std.proofs.Common.{◌≡◌, ◌↔◌, ℤ, pos, neg_ℤ, ◌≤ℤ◌, List, [], sym, subst, arith}
use Rattle.std.proofs.lemmas.Int.{ints}
use Rattle.zone_core.specs.declared.Bounds.{Bounds}
use Rattle.zone_core.specs.Zone.{Meets, IsNear, IsTight, SomePair, moment_reach}
use Rattle.zone_core.proofs.Pairs.{tight-from}
use Rattle.band_normal.specs.Zones.{SomeMeets}
use Rattle.arrivals.specs.Firsts.{LeastOf, LatestOf, Reversed}
use Rattle.arrivals.proofs.Pushing.{some_meets, meets_some, Pushed, pushed_alone}

abbrev pub reversed_of : Bounds → Bounds
reversed_of k = record { a = neg_ℤ k.d; b = neg_ℤ k.c; c = neg_ℤ k.b; d = neg_ℤ k.a; e = k.e; f = k.f }

pub reversed_near : (k : Bounds) → IsNear k → IsNear (reversed_of k)
reversed_near k n = record {
  a = record { above = omega (arith, ints); below = omega (arith, ints) };
  b = record { above = omega (arith, ints); below = omega (arith, ints) };
  c = record { above = omega (arith, ints); below = omega (arith, ints) };
  d = record { above = omega (arith, ints); below = omega (arith, ints) };
  e = n.e;
  f = n.f;
}

pub reversed_meets : (k : Bounds) (t : ℤ) (u : ℤ) → Meets (reversed_of k) t u ↔ Reversed (Meets k) t u
reversed_meets k t u = (
  λ m. record { from = omega (arith, ints); to = omega (arith, ints); low = omega (arith, ints); high = omega (arith, ints); least = omega (arith, ints); most = omega (arith, ints) },
  λ m. record { from = omega (arith, ints); to = omega (arith, ints); low = omega (arith, ints); high = omega (arith, ints); least = omega (arith, ints); most = omega (arith, ints) },
)

pub twice : (z : ℤ) → neg_ℤ (neg_ℤ z) ≡ z
twice z = omega (arith, ints)

pub reversed_some : (k r : Bounds) → IsTight k → ((t : ℤ) (u : ℤ) → Meets r t u ↔ Reversed (Meets k) t u) → SomePair (Meets r)
reversed_some k r tight pairs =
    let w = tight-from k tight in
    record {
      departure = neg_ℤ w.0;
      arrival = neg_ℤ k.a;
      related = (pairs (neg_ℤ w.0) (neg_ℤ k.a)).1 (subst (λ (v : ℤ). Meets k v (neg_ℤ (neg_ℤ w.0))) (sym (twice k.a)) (subst (λ (v : ℤ). Meets k k.a v) (sym (twice w.0)) w.1));
    }

pub all_reversed : (old zones turned : List Bounds) → old ≡ [] → Pushed (λ z. Reversed (Meets z)) old zones turned → (t : ℤ) (u : ℤ) → SomeMeets turned t u ↔ Reversed (SomeMeets zones) t u
all_reversed old zones turned e so t u =
    let p = pushed_alone (λ z. Reversed (Meets z)) old zones turned e so t u in (
      λ h. let w = p.0 h in meets_some zones w.0 (neg_ℤ u) (neg_ℤ t) w.1 w.2,
      λ h. p.1 (some_meets zones (neg_ℤ u) (neg_ℤ t) h),
    )

pub reversed_reach : (zones turned : List Bounds) → ((t : ℤ) (u : ℤ) → SomeMeets turned t u ↔ Reversed (SomeMeets zones) t u) → ((t : ℤ) (u : ℤ) → SomeMeets zones t u → neg_ℤ (pos moment_reach) ≤ℤ t) → (t : ℤ) (u : ℤ) → SomeMeets turned t u → u ≤ℤ pos moment_reach
reversed_reach zones turned are reach t u h = let l = reach (neg_ℤ u) (neg_ℤ t) ((are t u).0 h) in omega (arith, ints)

-- the first arrivals of what is turned round are, turned back, the last departures
module _ (Z M L O : ℤ → ℤ → Type 0) (turned : (t : ℤ) (u : ℤ) → M t u ↔ Reversed Z t u) (least : (t : ℤ) (u : ℤ) → L t u ↔ LeastOf M t u) (back : (t : ℤ) (u : ℤ) → O t u ↔ Reversed L t u) where
  to_m : (t u : ℤ) → Z t u → M (neg_ℤ u) (neg_ℤ t)
  to_m t u z = (turned (neg_ℤ u) (neg_ℤ t)).1 (subst (λ (v : ℤ). Z v (neg_ℤ (neg_ℤ u))) (sym (twice t)) (subst (λ (v : ℤ). Z t v) (sym (twice u)) z))

  from_m : (t u : ℤ) → M (neg_ℤ u) (neg_ℤ t) → Z t u
  from_m t u m = subst (λ (v : ℤ). Z t v) (twice u) (subst (λ (v : ℤ). Z v (neg_ℤ (neg_ℤ u))) (twice t) ((turned (neg_ℤ u) (neg_ℤ t)).0 m))

  pub latest_back : (t : ℤ) (u : ℤ) → O t u ↔ LatestOf Z t u
  latest_back t u = (
    λ o.
        let l = (least (neg_ℤ u) (neg_ℤ t)).0 ((back t u).0 o) in
        (from_m t u l.0, λ s lt z. l.1 (neg_ℤ s) (omega (arith, ints)) (to_m s u z)),
    λ h. (back t u).1 ((least (neg_ℤ u) (neg_ℤ t)).1 (to_m t u h.0, λ v lt m. h.1 (neg_ℤ v) (omega (arith, ints)) (from_m (neg_ℤ v) u (subst (λ (w : ℤ). M (neg_ℤ u) w) (sym (twice v)) m)))),
  )
