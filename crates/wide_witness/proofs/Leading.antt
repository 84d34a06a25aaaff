-- Where a row leads from the moments of a run, and what is added of it.
use Rattle.std.proofs.Common.{◌≡◌, ◌↔◌, ℤ, ◌-ℤ◌, ◌≤ℤ◌, true, false, Option, Some, None, refl, sym, ◌∙◌, ap, subst}
use Rattle.std.proofs.lemmas.Int.{by_lt_z}
use Rattle.std.specs.Int.{int_max, int_min}
use Rattle.std.specs.Int.Signed.{lt_z}
use Rattle.zone_core.proofs.Numbers.{extremes, signed}
use Rattle.itpg_base.specs.Points.{Point}
use Rattle.itpg_base.specs.Spans.{Span, Within}
use Rattle.zone_core.specs.declared.Bounds.{Bounds}
use Rattle.zone_core.specs.Zone.{Holds, IsNear, Meets}
use Rattle.zone_compose.specs.Compose.{AreArrivals}
use Rattle.band_normal.specs.Bands.{InBand}
use Rattle.relation_rows.specs.declared.rows.Row.{Row}
use Rattle.relation_rows.specs.declared.times.OneRow.{OneRow}
use Rattle.relation_rows.specs.Times.{InTime}
use Rattle.wide_witness.specs.Steps.{HasPoint, LeadsFrom}

module _ (k : Bounds) (span : Span) (first last : ℤ) (begin : first ≡ int_max k.a span.from) (end : last ≡ int_min k.b span.to) where
  -- the same bounds, with departures from the first to the last
  abbrev pub within : Bounds
  within = record { a = first; b = last; c = k.c; d = k.d; e = k.e; f = k.f }

  -- the bounds lie near where the first departure isn't after the last
  pub within_near : IsNear k → lt_z last first ≡ false → IsNear within
  within_near near up =
      let low = near.a in
      let high = near.b in
      let on : first ≤ℤ last = omega signed in
      record { a = record { above = omega extremes; below = omega extremes }; b = record { above = omega extremes; below = omega extremes }; c = near.c; d = near.d; e = near.e; f = near.f }

  -- they are met by the pairs that depart in the span
  within_meets : (t u : ℤ) → Meets within t u ↔ (Meets k t u × Within t span)
  within_meets t u = (
    λ m.
        let from = m.from in
        let to = m.to in
        (record { from = omega extremes; to = omega extremes; low = m.low; high = m.high; least = m.least; most = m.most }, record { begun = omega extremes; going = omega extremes }),
    λ p.
        let m = p.0 in
        let w = p.1 in
        let from = m.from in
        let to = m.to in
        let begun = w.begun in
        let going = w.going in
        record { from = omega extremes; to = omega extremes; low = m.low; high = m.high; least = m.least; most = m.most },
  )

  -- no pair departs in the span where the first departure is after the last
  pub none_within : lt_z last first ≡ true → (t : ℤ) → (u : ℤ) → (⊥ → Meets k t u × Within t span) × (Meets k t u × Within t span → ⊥)
  none_within down t u = (λ h. absurd h, λ p. let m = (within_meets t u).1 p in let from = m.from in let to = m.to in omega extremes)

  -- the zone of those bounds has the pairs of the zone that depart in the span
  pub holds_within : (zone : Bounds) → k ≡ zone → (tight : Option Bounds) → ((t u : ℤ) → Holds tight t u ↔ Meets within t u) → (t : ℤ) → (u : ℤ) → Holds tight t u ↔ (Meets zone t u × Within t span)
  holds_within zone same tight pairs t u =
      subst (λ (v : Bounds). Holds tight t u ↔ (Meets v t u × Within t span)) same
      (λ h. (within_meets t u).0 ((pairs t u).0 h), λ p. (pairs t u).1 ((within_meets t u).1 p))

-- the last arrival isn't before the first
pub arrivals_up : (zone : Bounds) (first last : ℤ) → AreArrivals zone first last → first ≤ℤ last
arrivals_up zone first last a = let m = a.least_met in a.greatest m.0 first m.1

-- with two pairs, some pair arrives at each moment between
arrives_between : (zone : Bounds) (t first : ℤ) → Meets zone t first → (s last : ℤ) → Meets zone s last → (u : ℤ) → first ≤ℤ u → u ≤ℤ last → (v : ℤ) × Meets zone v u
arrives_between zone t first m s last n u up on =
    let from = m.from in
    let to = m.to in
    let low = m.low in
    let least = m.least in
    let most = m.most in
    let begin = n.from in
    let end = n.to in
    let high = n.high in
    let far = n.most in
    by_lt_z zone.a (u -ℤ zone.f)
    (λ lt. (u -ℤ zone.f, record { from = omega signed; to = omega signed; low = omega signed; high = omega signed; least = omega signed; most = omega signed }))
    (λ ge. (zone.a, record { from = omega signed; to = omega signed; low = omega signed; high = omega signed; least = omega signed; most = omega signed }))

-- the zone arrives at each moment from its first arrival to its last
arrives_at : (zone : Bounds) (first last : ℤ) → AreArrivals zone first last → (u : ℤ) → first ≤ℤ u → u ≤ℤ last → (t : ℤ) × Meets zone t u
arrives_at zone first last a u ge le =
    arrives_between zone (a.least_met).0 first (a.least_met).1 (a.greatest_met).0 last (a.greatest_met).1 u ge le

module _ (row : Row) (run : OneRow) (same : row.source.0 ≡ run.object.0)
    (zone : Bounds) (pairs : (t : ℤ) → (u : ℤ) → Meets zone t u ↔ InBand row.band t u)
    (departing : Option Bounds) (some : (t : ℤ) → (u : ℤ) → Holds departing t u ↔ (Meets zone t u × Within t run.span)) where
  -- the row leads from the run as the zone's pairs do that depart in its span
  holds_leads : (y : Point) → LeadsFrom row run y ↔ ((row.target.0 ≡ y.object) × ((t : ℤ) × Holds departing t y.moment))
  holds_leads y = (
    λ h.
        let i = h.1 in
        let r = h.2 in
        (r.target, (h.0.moment, (some h.0.moment y.moment).1 ((pairs h.0.moment y.moment).1 r.pair, i.moment))),
    λ h.
        let t = (h.1).0 in
        let p = (some t y.moment).0 (h.1).1 in
        let z : Point = record { object = run.object.0; moment = t } in
        (z, record { object = refl; moment = p.1 }, record { source = same; target = h.0; pair = (pairs t y.moment).0 p.0 }),
  )

  -- where no pair departs in the span, the row doesn't lead from the run
  pub none_departs : departing ≡ None → (y : Point) → HasPoint None y ↔ LeadsFrom row run y
  none_departs e y = (
    λ h. absurd h,
    λ h. let k = ((holds_leads y).0 h).1 in subst (λ (v : Option Bounds). Holds v k.0 y.moment) e k.1,
  )

  -- where some do, it leads to all moments from their first arrival to the last
  pub some_depart : (led : Bounds) → departing ≡ Some led → (first last : ℤ) → AreArrivals led first last
      → (to : OneRow) → to.object ≡ row.target → to.span.from ≡ first → to.span.to ≡ last → (y : Point) → InTime to y.object y.moment ↔ LeadsFrom row run y
  some_depart led e first last a to object from end y = (
    λ h.
        let m = h.moment in
        let begun = m.begun in
        let going = m.going in
        let t = arrives_at led first last a y.moment (omega signed) (omega signed) in
        (holds_leads y).1 (sym (ap (λ (v : _). v.0) object) ∙ h.object, (t.0, subst (λ (v : Option Bounds). Holds v t.0 y.moment) (sym e) t.1)),
    λ h.
        let k = (holds_leads y).0 h in
        let t = (k.1).0 in
        let p = subst (λ (v : Option Bounds). Holds v t y.moment) e (k.1).1 in
        let least = a.least t y.moment p in
        let greatest = a.greatest t y.moment p in
        record { object = ap (λ (v : _). v.0) object ∙ k.0; moment = record { begun = omega signed; going = omega signed } },
  )
