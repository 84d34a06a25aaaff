-- Bands that arrive when they depart, and the ways by two bands.
use Rattle.std.proofs.Common.{◌≡◌, ◌↔◌, ℤ, ◌≤ℤ◌, ◌<ℤ◌, sym, subst, arith}
use Rattle.std.proofs.lemmas.Int.{ints}
use Rattle.zone_core.specs.Zone.{Within, Between, moment_reach}
use Rattle.band_normal.specs.declared.band.Band.{Band}
use Rattle.band_normal.specs.declared.band.End.{End}
use Rattle.band_normal.specs.declared.band.End.TheVariants.{Fixed, Moving}
use Rattle.band_normal.specs.Bands.{end_at, InBand}
use Rattle.relation_rows.specs.Ways.{IsStill}
use Rattle.relation_rows.specs.Apart.{IsLone}
use Rattle.relation_rows.specs.Direct.{Rests, LeadsOver}

end_up : (e : End) (s t : ℤ) → s ≤ℤ t → end_at e s ≤ℤ end_at e t
end_up (Fixed n) s t le = omega (arith, ints)
end_up (Moving k) s t le = omega (arith, ints, le)

-- ---- bands that arrive when they depart

pub still_rests : (b : Band) → IsStill b → Rests b
still_rests b is t from to = (
  subst (λ (v : End). end_at v t ≡ t) (sym is.0) (omega (arith, ints)),
  subst (λ (v : End). end_at v t ≡ t) (sym is.1) (omega (arith, ints)),
)

pub once_rests : (b : Band) → b.from ≡ b.to → end_at b.low b.from ≡ b.from → end_at b.high b.to ≡ b.to → Rests b
once_rests b e f g t from to =
    let first : t ≡ b.from = omega (arith, ints, e, from, to) in
    let last : t ≡ b.to = omega (arith, ints, e, from, to) in
    (subst (λ (v : ℤ). end_at b.low v ≡ v) (sym first) f, subst (λ (v : ℤ). end_at b.high v ≡ v) (sym last) g)

-- ---- some departures of a band

module _ (b : Band) (l : IsLone b) (from to : ℤ) (begins : b.from ≤ℤ from) (some : from ≤ℤ to) (ends : to ≤ℤ b.to) where
  near_from : Within moment_reach from
  near_from = let f = l.formed.from.above in let t = l.formed.to.below in record { above = omega (arith, ints, f, begins); below = omega (arith, ints, t, some, ends) }

  near_to : Within moment_reach to
  near_to = let f = l.formed.from.above in let t = l.formed.to.below in record { above = omega (arith, ints, f, begins, some); below = omega (arith, ints, t, ends) }

  abbrev pub many : Band
  many = record { from = from; to = to; low = b.low; high = b.high }

  pub many_lone : from <ℤ to → IsLone many
  many_lone lt = record {
    formed = record {
      span = some;
      from = near_from;
      to = near_to;
      low = λ t x y. l.formed.low t (omega (arith, ints, begins, x)) (omega (arith, ints, ends, y));
      high = λ t x y. l.formed.high t (omega (arith, ints, begins, x)) (omega (arith, ints, ends, y));
      some = λ t x y. l.formed.some t (omega (arith, ints, begins, x)) (omega (arith, ints, ends, y));
    };
    single_low = λ e. absurd (omega (arith, ints, e, lt));
    single_high = λ e. absurd (omega (arith, ints, e, lt));
  }

  pub many_pairs : (t : ℤ) → (u : ℤ) → InBand many t u ↔ (InBand b t u × Between from to t)
  many_pairs t u = (
    λ i. let x = i.from in let y = i.to in (record { from = omega (arith, ints, begins, x); to = omega (arith, ints, ends, y); low = i.low; high = i.high }, record { above = x; below = y }),
    λ h. record { from = h.1.above; to = h.1.below; low = h.0.low; high = h.0.high },
  )

  module _ (low high : ℤ) (is_low : low ≡ end_at b.low from) (is_high : high ≡ end_at b.high from) (one : to ≤ℤ from) where
    abbrev pub lone : Band
    lone = record { from = from; to = to; low = Fixed low; high = Fixed high }

    pub one_lone : IsLone lone
    one_lone =
        let within : from ≤ℤ b.to = omega (arith, ints, some, ends) in
        let near_low = subst (Within moment_reach) (sym is_low) (l.formed.low from begins within) in
        let near_high = subst (Within moment_reach) (sym is_high) (l.formed.high from begins within) in
        let up = l.formed.some from begins within in
        record {
          formed = record { span = some; from = near_from; to = near_to; low = λ t x y. near_low; high = λ t x y. near_high; some = λ t x y. omega (arith, ints, up, is_low, is_high) };
          single_low = λ e. tt;
          single_high = λ e. tt;
        }

    pub one_pairs : (t : ℤ) → (u : ℤ) → InBand lone t u ↔ (InBand b t u × Between from to t)
    one_pairs t u = (
      λ i.
          let x = i.from in
          let y = i.to in
          let p = i.low in
          let q = i.high in
          let same : from ≡ t = omega (arith, ints, x, y, one) in (
            record {
              from = omega (arith, ints, begins, x);
              to = omega (arith, ints, ends, y);
              low = subst (λ (v : ℤ). end_at b.low v ≤ℤ u) same (omega (arith, ints, p, is_low));
              high = subst (λ (v : ℤ). u ≤ℤ end_at b.high v) same (omega (arith, ints, q, is_high));
            },
            record { above = x; below = y },
          ),
      λ h.
          let x = h.1.above in
          let y = h.1.below in
          let same : t ≡ from = omega (arith, ints, x, y, one) in
          let p = subst (λ (v : ℤ). end_at b.low v ≤ℤ u) same h.0.low in
          let q = subst (λ (v : ℤ). u ≤ℤ end_at b.high v) same h.0.high in
          record { from = x; to = y; low = omega (arith, ints, p, is_low); high = omega (arith, ints, q, is_high) },
    )

-- ---- the ways by two bands

module _ (b c : Band) (first last : ℤ) (is_first : first ≡ end_at b.low b.from) (is_last : last ≡ end_at b.high b.to) where
  pub none_sooner : c.to <ℤ first → (t : ℤ) → (u : ℤ) → LeadsOver b c t u → ⊥
  none_sooner lt t u h =
      let up = end_up b.low b.from t (h.1).from in
      let low = (h.1).low in
      let to = (h.2).to in
      omega (arith, ints, lt, is_first, up, low, to)

  pub none_later : last <ℤ c.from → (t : ℤ) → (u : ℤ) → LeadsOver b c t u → ⊥
  none_later lt t u h =
      let up = end_up b.high t b.to (h.1).to in
      let high = (h.1).high in
      let from = (h.2).from in
      omega (arith, ints, lt, is_last, up, high, from)

  -- by a band that rests go those of the first that arrive while it departs
  pub way_first : Rests c → c.from ≤ℤ first → last ≤ℤ c.to → (t : ℤ) → (u : ℤ) → InBand b t u ↔ LeadsOver b c t u
  way_first rests low high t u = (
    λ i.
        let up = end_up b.low b.from t i.from in
        let down = end_up b.high t b.to i.to in
        let x = i.low in
        let y = i.high in
        let from : c.from ≤ℤ u = omega (arith, ints, low, is_first, up, x) in
        let to : u ≤ℤ c.to = omega (arith, ints, high, is_last, down, y) in
        let r = rests u from to in
        let r_low = r.0 in
        let r_high = r.1 in
        (u, i, record { from = from; to = to; low = omega (arith, ints, r_low); high = omega (arith, ints, r_high) }),
    λ h.
        let j = h.2 in
        let r = rests h.0 j.from j.to in
        let r_low = r.0 in
        let r_high = r.1 in
        let p = j.low in
        let q = j.high in
        let same : h.0 ≡ u = omega (arith, ints, r_low, r_high, p, q) in
        subst (InBand b t) same h.1,
  )

-- by a band that rests and then another go those of the second that depart in time
pub way_second : (b c w : Band) → Rests b → ((t : ℤ) → (u : ℤ) → InBand w t u ↔ (InBand c t u × Between b.from b.to t)) → (t : ℤ) → (u : ℤ) → InBand w t u ↔ LeadsOver b c t u
way_second b c w rests is t u = (
  λ i.
      let h = (is t u).0 i in
      let from = h.1.above in
      let to = h.1.below in
      let r = rests t from to in
      let low = r.0 in
      let high = r.1 in
      (t, record { from = from; to = to; low = omega (arith, ints, low); high = omega (arith, ints, high) }, h.0),
  λ h.
      let i = h.1 in
      let r = rests t i.from i.to in
      let low = r.0 in
      let high = r.1 in
      let p = i.low in
      let q = i.high in
      let same : h.0 ≡ t = omega (arith, ints, low, high, p, q) in
      (is t u).1 (subst (λ (v : ℤ). InBand c v u) same h.2, record { above = i.from; below = i.to }),
)

-- a band that rests arrives first when it departs first, and last when it departs last
pub rests_first : (b : Band) → b.from ≤ℤ b.to → Rests b → end_at b.low b.from ≡ b.from
rests_first b span rests = (rests b.from (omega (arith, ints)) span).0

pub rests_last : (b : Band) → b.from ≤ℤ b.to → Rests b → end_at b.high b.to ≡ b.to
rests_last b span rests = (rests b.to span (omega (arith, ints))).1
