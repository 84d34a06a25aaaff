-- The zone of a relation, in the place of another's.
use Rattle.std.proofs.Common.{◌↔◌, ℤ, Option, None, sym, true≢false}
use Rattle.zone_core.specs.declared.Bounds.{Bounds}
use Rattle.zone_core.specs.Zone.{IsZoneOf, SomePair}

-- where two relations have the same pairs, one has a pair exactly where the other has
pub some-same : {R S : ℤ → ℤ → Type 0} → ((t u : ℤ) → R t u ↔ S t u) → SomePair R ↔ SomePair S
some-same same = (
  λ p. record {
    departure = p.departure;
    arrival = p.arrival;
    related = (same p.departure p.arrival).0 p.related;
  },
  λ p. record {
    departure = p.departure;
    arrival = p.arrival;
    related = (same p.departure p.arrival).1 p.related;
  },
)

-- and the zone of one is the zone of the other
pub zone_of-same : {R S : ℤ → ℤ → Type 0} {o : Option Bounds} → ((t u : ℤ) → R t u ↔ S t u)
    → IsZoneOf R o → IsZoneOf S o
zone_of-same same z = record {
  pairs = λ t u. (λ h. (same t u).0 ((z.pairs t u).0 h), λ r. (z.pairs t u).1 ((same t u).1 r));
  some = (λ h. (some-same same).0 (z.some.0 h), λ p. z.some.1 ((some-same same).1 p));
}

-- a relation without a pair has no zone
pub zone_of-none : {R : ℤ → ℤ → Type 0} → ((t u : ℤ) → R t u → ⊥) → IsZoneOf R None
zone_of-none none = record {
  pairs = λ t u. (λ h. absurd h, none t u);
  some = (λ h. absurd (true≢false (sym h)), λ p. absurd (none p.departure p.arrival p.related));
}
