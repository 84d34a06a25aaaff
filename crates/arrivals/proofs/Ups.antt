-- What arrives at or above the first arrivals, and the first arrivals read back from it.
use Rattle.std.proofs.Common.{◌≡◌, ◌↔◌, ℤ, pos, ◌+ℤ◌, ◌≤ℤ◌, ◌<ℤ◌, List, [], sym, subst, arith}
use Rattle.std.specs.Int.{int_max}
use Rattle.std.proofs.lemmas.Int.{ints, clamps, by_lt_z}
use Rattle.zone_core.specs.declared.Bounds.{Bounds}
use Rattle.zone_core.specs.Zone.{Meets, IsNear, IsTight, SomePair, moment_reach}
use Rattle.zone_core.proofs.Pairs.{tight-from}
use Rattle.band_normal.specs.declared.band.Band.{Band}
use Rattle.itpg_base.specs.Lists.{Among}
use Rattle.band_normal.specs.Bands.{end_at, InBand, IsWellFormed}
use Rattle.band_normal.specs.Normal.{IsRun, Normal}
use Rattle.band_normal.specs.Zones.{SomeMeets}
use Rattle.arrivals.specs.Firsts.{LeastOf, IsAbove, SomeOf, OnLow}
use Rattle.arrivals.proofs.Pushing.{some_meets, meets_some, Pushed, pushed_alone}

-- the bounds without those that limit arrivals from above
abbrev pub relaxed : Bounds → Bounds
relaxed k = record k { d = pos 4000000000000; f = pos 8000000000000 }

pub relaxed_near : (k : Bounds) → IsNear k → IsNear (relaxed k)
relaxed_near k n = record { a = n.a; b = n.b; c = n.c; d = record { above = omega (arith, ints); below = omega (arith, ints) }; e = n.e; f = record { above = omega (arith, ints); below = omega (arith, ints) } }

pub relaxed_some : (k : Bounds) → IsNear k → IsTight k → SomePair (Meets (relaxed k))
relaxed_some k n tight =
    let w = tight-from k tight in
    let m = w.1 in
    let a = n.a in
    let d = n.d in
    let f = n.f in
    record { departure = k.a; arrival = w.0; related = record { from = m.from; to = m.to; low = m.low; high = omega (arith, ints); least = m.least; most = omega (arith, ints) } }

pub up_pairs : (k : Bounds) → IsNear k → IsTight k → (t : ℤ) (v : ℤ) → Meets (relaxed k) t v ↔ IsAbove (Meets k) t v
up_pairs k n tight t v = (
  λ m.
      let from = m.from in
      let to = m.to in
      let low = m.low in
      let least = m.least in
      record {
        arrival = int_max k.c (t +ℤ k.e);
        held = record {
          from = from;
          to = to;
          low = omega (arith, ints, clamps);
          high = (let p = tight.arrivals in let q = tight.last_high in omega (arith, ints, clamps));
          least = omega (arith, ints, clamps);
          most = (let p = tight.differences in let q = tight.low_first in omega (arith, ints, clamps));
        };
        up = omega (arith, ints, clamps);
        below = m.high;
      },
  λ h.
      let m = h.held in
      let from = m.from in
      let low = m.low in
      let least = m.least in
      let up = h.up in
      let below = h.below in
      let a = n.a in
      record { from = from; to = m.to; low = omega (arith, ints); high = below; least = omega (arith, ints); most = omega (arith, ints) },
)

above_like : (R S : ℤ → ℤ → Type 0) → ((t u : ℤ) → R t u → S t u) → (t v : ℤ) → IsAbove R t v → IsAbove S t v
above_like R S f t v h = record { arrival = h.arrival; held = f t h.arrival h.held; up = h.up; below = h.below }

pub some_above : (zones : List Bounds) (t u : ℤ) → SomeOf (λ z. IsAbove (Meets z)) zones t u ↔ IsAbove (SomeMeets zones) t u
some_above zones t u = (
  λ h. let a = h.2 in record { arrival = a.arrival; held = meets_some zones h.0 t a.arrival h.1 a.held; up = a.up; below = a.below },
  λ h. let w = some_meets zones t h.arrival h.held in (w.0, w.1, record { arrival = h.arrival; held = w.2; up = h.up; below = h.below }),
)

pub few_above : (old ups zones : List Bounds) → old ≡ [] → Pushed (λ z. IsAbove (Meets z)) old zones ups → (t u : ℤ) → SomeMeets ups t u ↔ IsAbove (SomeMeets zones) t u
few_above old ups zones e so t u =
    let p = pushed_alone (λ z. IsAbove (Meets z)) old zones ups e so t u in
    let q = some_above zones t u in
    (λ h. q.0 (p.0 h), λ h. p.1 (q.1 h))

-- a band's low end as a band
abbrev pub low_line : Band → Band
low_line b = record b { high = b.low }

pub line_formed : (b : Band) → IsWellFormed b → IsWellFormed (low_line b)
line_formed b f = record { span = f.span; from = f.from; to = f.to; low = f.low; high = f.low; some = λ t p q. omega (arith, ints) }

pub line_pairs : (b : Band) (t u : ℤ) → InBand (low_line b) t u ↔ OnLow b t u
line_pairs b t u = (
  λ i. let l = i.low in let h = i.high in record { from = i.from; to = i.to; low = omega (arith, ints) },
  λ o. let e = o.low in record { from = o.from; to = o.to; low = omega (arith, ints); high = omega (arith, ints) },
)

module _ (R : ℤ → ℤ → Type 0) (reach : (t : ℤ) (u : ℤ) → R t u → u ≤ℤ pos moment_reach) (bands : List Band) (n : Normal (IsAbove R) bands) where
  low_least : (b : Band) → Among bands b → (t : ℤ) → b.from ≤ℤ t → t ≤ℤ b.to → LeastOf R t (end_at b.low t)
  low_least b i t p q =
      let run : IsRun (IsAbove R) t (end_at b.low t) (end_at b.high t) = (n.each b i).runs t p q in
      let there : IsAbove R t (end_at b.low t) = run.each (end_at b.low t) (omega (arith, ints)) run.some in
      let up = there.up in
      let below = there.below in
      let none : (v : ℤ) → v <ℤ end_at b.low t → R t v → ⊥ = λ v lt h. run.below (record { arrival = v; held = h; up = omega (arith, ints); below = omega (arith, ints) }) in
      let same : there.arrival ≡ end_at b.low t = by_lt_z there.arrival (end_at b.low t) (λ lt. absurd (none there.arrival lt there.held)) (λ le. omega (arith, ints)) in
      (subst (λ (v : ℤ). R t v) same there.held, none)

  pub least_lines : (t u : ℤ) → SomeOf OnLow bands t u ↔ LeastOf R t u
  least_lines t u = (
    λ h. let o = h.2 in subst (λ (v : ℤ). LeastOf R t v) (sym o.low) (low_least h.0 h.1 t o.from o.to),
    λ h.
        let w = n.whole t u (record { arrival = u; held = h.0; up = omega (arith, ints); below = reach t u h.0 }) in
        let i = w.2 in
        let low = i.low in
        let l = low_least w.0 w.1 t i.from i.to in
        (w.0, w.1, record { from = i.from; to = i.to; low = by_lt_z (end_at w.0.low t) u (λ lt. absurd (h.1 (end_at w.0.low t) lt l.0)) (λ le. omega (arith, ints)) }),
  )
