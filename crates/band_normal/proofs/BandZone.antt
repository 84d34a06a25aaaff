-- The zone of a band.
use Rattle.std.proofs.Common.{◌↔◌, ℤ, arith}
use Rattle.std.proofs.lemmas.Int.{ints}
use Rattle.zone_core.specs.Zone.{Meets, IsNear, Within, moment_reach}
use Rattle.band_normal.specs.Bands.{end_at, InBand, IsWellFormed}
use Rattle.band_normal.specs.Zones.{bounds_of}
use Rattle.band_normal.specs.declared.band.End.{End}
use Rattle.band_normal.specs.declared.band.End.TheVariants.{Fixed, Moving}
use Rattle.band_normal.specs.declared.band.Band.{Band}

abbrev band : ℤ → ℤ → End → End → Band
band from to low high = record { from = from; to = to; low = low; high = high }

-- the arrivals of a band are in range
ends_near : (from to : ℤ) (low high : End) → IsWellFormed (band from to low high) → (t u : ℤ) → InBand (band from to low high) t u → Within moment_reach u
ends_near from to low high w t u i =
    let a = w.low t i.from i.to in
    let b = w.high t i.from i.to in
    let c = i.low in let d = i.high in
    record { above = omega (arith, ints); below = omega (arith, ints) }

pub band-meets : (from to : ℤ) (low high : End) → IsWellFormed (band from to low high) → (t u : ℤ) → Meets (bounds_of (band from to low high)) t u ↔ InBand (band from to low high) t u
band-meets from to (Fixed m) (Fixed n) w t u = (
  λ m'. record { from = omega (arith, ints); to = omega (arith, ints); low = omega (arith, ints); high = omega (arith, ints) },
  λ i. let near = ends_near from to (Fixed m) (Fixed n) w t u i in record { from = omega (arith, ints); to = omega (arith, ints); low = omega (arith, ints); high = omega (arith, ints); least = omega (arith, ints); most = omega (arith, ints) },
)
band-meets from to (Fixed m) (Moving n) w t u = (
  λ m'. record { from = omega (arith, ints); to = omega (arith, ints); low = omega (arith, ints); high = omega (arith, ints) },
  λ i. let near = ends_near from to (Fixed m) (Moving n) w t u i in record { from = omega (arith, ints); to = omega (arith, ints); low = omega (arith, ints); high = omega (arith, ints); least = omega (arith, ints); most = omega (arith, ints) },
)
band-meets from to (Moving m) (Fixed n) w t u = (
  λ m'. record { from = omega (arith, ints); to = omega (arith, ints); low = omega (arith, ints); high = omega (arith, ints) },
  λ i. let near = ends_near from to (Moving m) (Fixed n) w t u i in record { from = omega (arith, ints); to = omega (arith, ints); low = omega (arith, ints); high = omega (arith, ints); least = omega (arith, ints); most = omega (arith, ints) },
)
band-meets from to (Moving m) (Moving n) w t u = (
  λ m'. record { from = omega (arith, ints); to = omega (arith, ints); low = omega (arith, ints); high = omega (arith, ints) },
  λ i. let near = ends_near from to (Moving m) (Moving n) w t u i in record { from = omega (arith, ints); to = omega (arith, ints); low = omega (arith, ints); high = omega (arith, ints); least = omega (arith, ints); most = omega (arith, ints) },
)

-- the bounds of a well-formed band are in range
pub band-near : (from to : ℤ) (low high : End) → IsWellFormed (band from to low high) → IsNear (bounds_of (band from to low high))
band-near from to (Fixed m) (Fixed n) w =
    let first = w.from in let last = w.to in
    let l = w.low from (omega (arith, ints)) w.span in let h = w.high from (omega (arith, ints)) w.span in
    record {
      a = first;
      b = last;
      c = record { above = omega (arith, ints); below = omega (arith, ints) };
      d = record { above = omega (arith, ints); below = omega (arith, ints) };
      e = record { above = omega (arith, ints); below = omega (arith, ints) };
      f = record { above = omega (arith, ints); below = omega (arith, ints) };
    }
band-near from to (Fixed m) (Moving n) w =
    let first = w.from in let last = w.to in
    let l = w.low from (omega (arith, ints)) w.span in let h = w.high from (omega (arith, ints)) w.span in
    record {
      a = first;
      b = last;
      c = record { above = omega (arith, ints); below = omega (arith, ints) };
      d = record { above = omega (arith, ints); below = omega (arith, ints) };
      e = record { above = omega (arith, ints); below = omega (arith, ints) };
      f = record { above = omega (arith, ints); below = omega (arith, ints) };
    }
band-near from to (Moving m) (Fixed n) w =
    let first = w.from in let last = w.to in
    let l = w.low from (omega (arith, ints)) w.span in let h = w.high from (omega (arith, ints)) w.span in
    record {
      a = first;
      b = last;
      c = record { above = omega (arith, ints); below = omega (arith, ints) };
      d = record { above = omega (arith, ints); below = omega (arith, ints) };
      e = record { above = omega (arith, ints); below = omega (arith, ints) };
      f = record { above = omega (arith, ints); below = omega (arith, ints) };
    }
band-near from to (Moving m) (Moving n) w =
    let first = w.from in let last = w.to in
    let l = w.low from (omega (arith, ints)) w.span in let h = w.high from (omega (arith, ints)) w.span in
    record {
      a = first;
      b = last;
      c = record { above = omega (arith, ints); below = omega (arith, ints) };
      d = record { above = omega (arith, ints); below = omega (arith, ints) };
      e = record { above = omega (arith, ints); below = omega (arith, ints) };
      f = record { above = omega (arith, ints); below = omega (arith, ints) };
    }

-- a well-formed band has a pair
pub band-pair : (b : Band) → IsWellFormed b → InBand b b.from (end_at b.low b.from)
band-pair b w = record { from = omega (arith, ints); to = w.span; low = omega (arith, ints); high = w.some b.from (omega (arith, ints)) w.span }
