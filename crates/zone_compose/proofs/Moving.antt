-- The bounds of pairs that stay in place or move by a step, and when there is any.
use Rattle.std.proofs.Common.{◌≡◌, ◌↔◌, ℤ, pos, ◌<ℤ◌, refl, Option, IsNone}
use Rattle.std.proofs.lemmas.Bool.{false_from_ne_true}
use Rattle.std.proofs.lemmas.Int.{by_lt_z}
use Rattle.zone_core.proofs.Numbers.{signed}
use Rattle.zone_core.specs.declared.Bounds.{Bounds}
use Rattle.zone_core.specs.Zone.{Meets, IsZoneOf}
use Rattle.zone_compose.specs.Compose.{Moves, Stays}

-- from first to last, with each arrival a step from its departure
abbrev pub moving_of : ℤ → ℤ → ℤ → Bounds
moving_of step first last = record { a = first; b = last; c = first; d = last; e = step; f = step }

pub stays-meets : (first last t u : ℤ) → Meets (moving_of (pos 0) first last) t u ↔ Stays first last t u
stays-meets first last t u = (
  λ m. record { from = m.from; to = m.to; same = omega signed },
  λ s. record {
    from = s.from;
    to = s.to;
    low = omega signed;
    high = omega signed;
    least = omega signed;
    most = omega signed;
  },
)

pub moves-meets : (step first last t u : ℤ) → Meets (moving_of step first last) t u ↔ Moves step first last t u
moves-meets step first last t u = (
  λ m. record { from = m.from; to = m.to; low = m.low; high = m.high; by = omega signed },
  λ s. record {
    from = s.from;
    to = s.to;
    low = s.low;
    high = s.high;
    least = omega signed;
    most = omega signed;
  },
)

-- nothing stays in a span exactly where its first moment is above its last
pub stays-none : {first last : ℤ} {o : Option Bounds} → IsZoneOf (Stays first last) o → IsNone o ↔ (last <ℤ first)
stays-none {first} {last} z = (
  λ none. by_lt_z last first (λ lt. lt) (λ le.
      let some = z.some.1 (record {
        departure = first;
        arrival = first;
        related = record { from = omega signed; to = le; same = refl };
      }) in
      cc),
  λ lt. false_from_ne_true _ (λ some. let p = z.some.0 some in let s = p.related in omega signed),
)
