-- Rows of points that lead to themselves.
use Rattle.std.proofs.Common.{◌≡◌, ◌↔◌, inl, inr, ℕ, ◌+◌, ◌<◌, ◌≤◌, ℤ, pos, ◌+ℤ◌, ◌≤ℤ◌, ◌<ℤ◌, List, [], ◌∷◌, ◌++◌, length, map, take, slice_index_or, Bool, true, false, refl, sym, ◌∙◌, ap, subst, arith}
use Rattle.std.specs.Prelude.{int_lt, if◌then◌else◌}
use Rattle.std.proofs.lemmas.Int.{ints}
use Rattle.std.proofs.lemmas.List.{take_more, take_all}
use Rattle.zone_core.specs.Zone.{Within as Near, moment_reach}
use Rattle.itpg_base.specs.Points.{Point}
use Rattle.itpg_base.specs.Spans.{Span, Within, IsSpan}
use Rattle.itpg_base.specs.Lists.{Among, Ordered}
use Rattle.itpg_base.proofs.PointSearch.{point_ext}
use Rattle.band_normal.specs.declared.band.Band.{Band}
use Rattle.band_normal.specs.declared.band.End.TheVariants.{Fixed, Moving}
use Rattle.band_normal.specs.Bands.{InBand}
use Rattle.relation_rows.specs.declared.rows.Row.{Row}
use Rattle.relation_rows.specs.declared.times.OneRow.{OneRow}
use Rattle.relation_rows.specs.Rows.{RowsHold, NormalRows, IsWide}
use Rattle.relation_rows.specs.Times.{TimeBefore, IsOneTime}
use Rattle.relation_rows.specs.Apart.{IsLone, AreLone, ComesApart}
use Rattle.relation_rows.specs.Resting.{AreNearTimes, StaysWithin, resting_band, resting}
use Rattle.relation_rows.proofs.Listed.{rows_unique}
use Rattle.relation_rows.proofs.ApartRows.{apart_normal}

-- the band of a span, by whether the span has more moments than one
abbrev pub band_by : Bool → Span → Band
band_by b s = if b then record { from = s.from; to = s.to; low = Moving (pos 0); high = Moving (pos 0) } else record { from = s.from; to = s.to; low = Fixed s.from; high = Fixed s.from }

lt_is : (a b : ℤ) → int_lt a b ≡ true → a <ℤ b
lt_is a b e = grind (arith, ints)

le_is : (a b : ℤ) → int_lt a b ≡ false → b ≤ℤ a
le_is a b e = grind (arith, ints)

module _ (s : Span) (span : IsSpan s) where
  band_from : (b : Bool) → (band_by b s).from ≡ s.from
  band_from true = refl
  band_from false = refl

  band_to : (b : Bool) → (band_by b s).to ≡ s.to
  band_to true = refl
  band_to false = refl

  rest_pairs : (b : Bool) → int_lt s.from s.to ≡ b → (t u : ℤ) → InBand (band_by b s) t u ↔ ((t ≡ u) × Within t s)
  rest_pairs true e t u = (
    λ i. let low = i.low in let high = i.high in (omega (arith, ints, low, high), record { begun = i.from; going = i.to }),
    λ h. let g = h.0 in record { from = h.1.begun; to = h.1.going; low = omega (arith, ints, g); high = omega (arith, ints, g) },
  )
  rest_pairs false e t u =
      let le = le_is s.from s.to e in (
        λ i. let low = i.low in let high = i.high in let from = i.from in let to = i.to in (omega (arith, ints, low, high, from, to, le), record { begun = from; going = to }),
        λ h. let g = h.0 in let from = h.1.begun in let to = h.1.going in record { from = from; to = to; low = omega (arith, ints, g, from); high = omega (arith, ints, g, to, le) },
      )

  module _ (first : Near moment_reach s.from) (last : Near moment_reach s.to) where
    rest_lone : (b : Bool) → int_lt s.from s.to ≡ b → IsLone (band_by b s)
    rest_lone true e =
        let lt = lt_is s.from s.to e in
        let a = first.above in
        let b = last.below in
        record {
          formed = record {
            span = span;
            from = first;
            to = last;
            low = λ t from to. record { above = omega (arith, ints, a, from); below = omega (arith, ints, b, to) };
            high = λ t from to. record { above = omega (arith, ints, a, from); below = omega (arith, ints, b, to) };
            some = λ t from to. omega (arith, ints);
          };
          single_low = λ e. absurd (omega (arith, ints, e, lt));
          single_high = λ e. absurd (omega (arith, ints, e, lt));
        }
    rest_lone false e = record {
      formed = record { span = span; from = first; to = last; low = λ t from to. first; high = λ t from to. first; some = λ t from to. omega (arith, ints) };
      single_low = λ e. tt;
      single_high = λ e. tt;
    }

-- ---- rows

mapped : (times : List OneRow) (r : OneRow) → Among times r → Among (map resting times) (resting r)
mapped [] r a = absurd a
mapped (s ∷ ss) r (inl e) = inl (ap resting e)
mapped (s ∷ ss) r (inr a) = inr (mapped ss r a)

of_mapped : (times : List OneRow) (q : Row) → Among (map resting times) q → (r : OneRow) × Among times r × (resting r ≡ q)
of_mapped [] q a = absurd a
of_mapped (s ∷ ss) q (inl e) = (s, inl refl, e)
of_mapped (s ∷ ss) q (inr a) = let w = of_mapped ss q a in (w.0, inr w.1, w.2)

same_length : (times : List OneRow) → length (map resting times) ≡ length times
same_length [] = refl
same_length (s ∷ ss) = let l = same_length ss in omega (arith, l)

rests_apart : (r s : OneRow) → TimeBefore r s → ComesApart (resting r) (resting s)
rests_apart r s (inl l) = inl (inl (inl l))
rests_apart r s (inr (e, l)) = inl (inr ((sym e, sym e), subst (λ (v : ℤ). (v +ℤ pos 1) <ℤ (resting_band s.span).from) (sym (to_of r.span (int_lt r.span.from r.span.to))) (subst (λ (v : ℤ). (r.span.to +ℤ pos 1) <ℤ v) (sym (from_of s.span (int_lt s.span.from s.span.to))) l)))
  where
    to_of : (a : Span) (b : Bool) → (band_by b a).to ≡ a.to
    to_of a true = refl
    to_of a false = refl

    from_of : (a : Span) (b : Bool) → (band_by b a).from ≡ a.from
    from_of a true = refl
    from_of a false = refl

mapped_apart : (times : List OneRow) → Ordered TimeBefore times → Ordered ComesApart (map resting times)
mapped_apart [] o = tt
mapped_apart (r ∷ rs) o = (
  λ q a. let w = of_mapped rs q a in subst (ComesApart (resting r)) w.2 (rests_apart r w.0 (o.0 w.0 w.1)),
  mapped_apart rs o.1,
)

module _ (times : List OneRow) (is : IsOneTime times) (near : AreNearTimes times) where
  mapped_lone : AreLone (map resting times)
  mapped_lone q a =
      let w = of_mapped times q a in
      let n = near w.0 w.1 in
      subst (λ (v : Row). IsLone v.band) w.2 (rest_lone (w.0).span (is.spans w.0 w.1) n.0 n.1 (int_lt (w.0).span.from (w.0).span.to) refl)

  pairs_of : (r : OneRow) → Among times r → (t u : ℤ) → InBand (resting_band r.span) t u ↔ ((t ≡ u) × Within t r.span)
  pairs_of r a = rest_pairs r.span (is.spans r a) (int_lt r.span.from r.span.to) refl

  mapped_hold : (x y : Point) → RowsHold (map resting times) x y ↔ StaysWithin times x y
  mapped_hold x y = (
    λ h.
        let w = of_mapped times h.0 h.1 in
        let i = h.2 in
        let source : (w.0).object.0 ≡ x.object = ap (λ (v : Row). v.source.0) w.2 ∙ i.source in
        let target : (w.0).object.0 ≡ y.object = ap (λ (v : Row). v.target.0) w.2 ∙ i.target in
        let p = (pairs_of w.0 w.1 x.moment y.moment).0 (subst (λ (v : Row). InBand v.band x.moment y.moment) (sym w.2) i.pair) in
        (point_ext x y (sym source ∙ target) p.0, (w.0, w.1, record { object = source; moment = p.1 })),
    λ h.
        let w = h.1 in
        let i = w.2 in
        let e = h.0 in (
          resting w.0,
          mapped times w.0 w.1,
          record {
            source = i.object;
            target = i.object ∙ ap (λ (v : Point). v.object) e;
            pair = (pairs_of w.0 w.1 x.moment y.moment).1 (ap (λ (v : Point). v.moment) e, i.moment);
          },
        ),
  )

  pub rest_normal : NormalRows (StaysWithin times) (map resting times)
  rest_normal = apart_normal (map resting times) mapped_lone (mapped_apart times is.order) (StaysWithin times) mapped_hold

  pub rest_formed : AreLone (map resting times)
  rest_formed = mapped_lone

  pub rest_few : (limit : ℕ) → length times ≤ limit → length (map resting times) ≤ limit
  rest_few limit le = let l = same_length times in omega (arith, l, le)

  pub rest_wide : (limit : ℕ) → limit < length times → IsWide (StaysWithin times) limit
  rest_wide limit lt rows n =
      let e = rows_unique (StaysWithin times) rows (map resting times) n rest_normal in
      let l = same_length times in
      let k = ap length e in
      omega (arith, l, lt, k)

-- ---- one more row

pub rest_more : (times : List OneRow) (k : ℕ) (d : OneRow) → k < length times → (now next : List Row) → next ≡ now ++ resting (slice_index_or times k d) ∷ [] → now ≡ map resting (take k times) → next ≡ map resting (take (k + 1) times)
rest_more times k d lt now next pushed so =
    pushed ∙ ap (λ (v : List Row). v ++ resting (slice_index_or times k d) ∷ []) so ∙ sym (ap (map resting) (take_more times k d lt) ∙ map_on (take k times) (slice_index_or times k d))
  where
    map_on : (xs : List OneRow) (x : OneRow) → map resting (xs ++ x ∷ []) ≡ map resting xs ++ resting x ∷ []
    map_on [] x = refl
    map_on (y ∷ ys) x = ap (λ (v : List Row). resting y ∷ v) (map_on ys x)

pub rest_none : (times : List OneRow) (rows : List Row) → rows ≡ [] → rows ≡ map resting (take 0 times)
rest_none [] rows e = e
rest_none (s ∷ ss) rows e = e

pub rest_all : (times : List OneRow) (k : ℕ) (rows : List Row) → length times ≤ k → rows ≡ map resting (take k times) → rows ≡ map resting times
rest_all times k rows le e = e ∙ ap (map resting) (take_all k times le)

-- the row with a band of the item that was read
pub rest_item : (times : List OneRow) (k : ℕ) (d time : OneRow) (band : Band) → k < length times → time ≡ slice_index_or times k d → band ≡ resting_band time.span → (now next : List Row)
    → next ≡ now ++ (record { source = time.object; target = time.object; band = band }) ∷ [] → now ≡ map resting (take k times) → next ≡ map resting (take (k + 1) times)
rest_item times k d time band lt e f now next pushed so =
    rest_more times k d lt now next
    (pushed ∙ ap (λ (v : Band). now ++ (record { source = time.object; target = time.object; band = v }) ∷ []) f ∙ ap (λ (v : OneRow). now ++ resting v ∷ []) e)
    so
