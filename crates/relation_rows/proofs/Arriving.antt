-- The moments at which bands and rows depart and arrive.
use Rattle.std.proofs.Common.{◌≡◌, ◌↔◌, ◌⊎◌, inl, inr, ⊎_elim, ℕ, ◌+◌, ◌<◌, ◌≤◌, ℤ, ◌-ℤ◌, ◌≤ℤ◌, List, [], ◌∷◌, ◌++◌, length, slice_index_or, take, Result, Ok, Err, IfOk, refl, sym, subst, arith, length-append}
use Rattle.std.proofs.lemmas.Int.{ints, by_lt_z}
use Rattle.std.proofs.lemmas.List.{take_all}
use Rattle.itpg_base.specs.Spans.{Span, Within, IsSpan}
use Rattle.itpg_base.specs.Points.{Point}
use Rattle.band_normal.specs.declared.band.End.{End}
use Rattle.band_normal.specs.declared.band.End.TheVariants.{Fixed, Moving}
use Rattle.band_normal.specs.declared.band.Band.{Band}
use Rattle.itpg_base.specs.Lists.{Among}
use Rattle.band_normal.specs.Bands.{IsWellFormed, end_at}
use Rattle.itpg_base.proofs.Lists.{among_append}
use Rattle.relation_rows.specs.declared.rows.Row.{Row}
use Rattle.relation_rows.specs.declared.times.OneRow.{OneRow}
use Rattle.relation_rows.specs.declared.times.Side.{Side}
use Rattle.relation_rows.specs.declared.times.Side.TheVariants.{Departure, Arrival}
use Rattle.relation_rows.specs.Rows.{InRow}
use Rattle.relation_rows.specs.Times.{InTime, TimesHold, AreTimes, Departs, Arrives, DepartsIn, ArrivesIn}
use Rattle.relation_rows.specs.Sides.{HasTime, HaveTime}
use Rattle.relation_rows.proofs.Pushing.{rows_more}
use Rattle.relation_rows.proofs.Coalescing.{hold_more}
use Rattle.relation_rows.proofs.Runs.{times_alike}

-- an end doesn't go down
pub end_up : (e : End) (s t : ℤ) → s ≤ℤ t → end_at e s ≤ℤ end_at e t
end_up (Fixed n) s t le = omega (arith, ints)
end_up (Moving k) s t le = omega (arith, ints)

-- a departure from which the moment is reached
reached : (from to : ℤ) (low high : End) → from ≤ℤ to → ((t : ℤ) → from ≤ℤ t → t ≤ℤ to → end_at low t ≤ℤ end_at high t) → (u : ℤ) → end_at low from ≤ℤ u → u ≤ℤ end_at high to
    → (t : ℤ) × (from ≤ℤ t) × (t ≤ℤ to) × (end_at low t ≤ℤ u) × (u ≤ℤ end_at high t)
reached from to (Fixed n) (Fixed m) span some u l h = (from, omega (arith, ints), span, l, h)
reached from to (Fixed n) (Moving k) span some u l h = (to, span, omega (arith, ints), l, h)
reached from to (Moving k) (Fixed n) span some u l h = (from, omega (arith, ints), span, l, h)
reached from to (Moving k) (Moving j) span some u l h =
    let first = some from (omega (arith, ints)) span in
    by_lt_z to (u -ℤ k)
    (λ lt. (to, span, omega (arith, ints), omega (arith, ints), h))
    (λ le. (u -ℤ k, omega (arith, ints), le, omega (arith, ints), omega (arith, ints)))

pub arrivals_ordered : (b : Band) → IsWellFormed b → end_at b.low b.from ≤ℤ end_at b.high b.to
arrivals_ordered b w =
    let first = w.some b.from (omega (arith, ints)) w.span in
    let up = end_up b.high b.from b.to w.span in
    omega (arith, ints)

pub arrives_in : (b : Band) → IsWellFormed b → (s : Span) → s.from ≡ end_at b.low b.from → s.to ≡ end_at b.high b.to → (u : ℤ) → Within u s ↔ ArrivesIn b u
arrives_in b w s e f u = (
  λ h.
      let begun = h.begun in
      let going = h.going in
      let t = reached b.from b.to b.low b.high w.span w.some u (omega (arith, ints)) (omega (arith, ints)) in
      (t.0, record { from = t.1; to = t.2; low = t.3; high = t.4 }),
  λ h.
      let i = h.1 in
      let low = i.low in
      let high = i.high in
      let up = end_up b.low b.from h.0 i.from in
      let top = end_up b.high h.0 b.to i.to in
      record { begun = omega (arith, ints); going = omega (arith, ints) },
)

pub departs_in : (b : Band) → IsWellFormed b → (s : Span) → s.from ≡ b.from → s.to ≡ b.to → (t : ℤ) → Within t s ↔ DepartsIn b t
departs_in b w s e f t = (
  λ h.
      let begun = h.begun in
      let going = h.going in
      let from : b.from ≤ℤ t = omega (arith, ints) in
      let to : t ≤ℤ b.to = omega (arith, ints) in
      (end_at b.low t, record { from = from; to = to; low = omega (arith, ints); high = w.some t from to }),
  λ h. let i = h.1 in let from = i.from in let to = i.to in record { begun = omega (arith, ints); going = omega (arith, ints) },
)

depart_more : (rows : List Row) (k : ℕ) (d : Row) → k < length rows → (o : ℕ) (t : ℤ) → Departs (take (k + 1) rows) o t ↔ (Departs (take k rows) o t ⊎ (((slice_index_or rows k d).source.0 ≡ o) × DepartsIn (slice_index_or rows k d).band t))
depart_more rows k d lt o t = (
  λ h. ⊎_elim
      (λ a. inl (h.0, a))
      (λ (a : InRow (slice_index_or rows k d) (record { object = o; moment = t }) h.0). inr (a.source, (h.0.moment, a.pair)))
      ((rows_more rows k d lt (record { object = o; moment = t }) h.0).0 h.1),
  λ h. ⊎_elim
      (λ a. (a.0, (rows_more rows k d lt (record { object = o; moment = t }) a.0).1 (inl a.1)))
      (λ a.
      let y : Point = record { object = (slice_index_or rows k d).target.0; moment = (a.1).0 } in
      (record { object = (slice_index_or rows k d).target.0; moment = (a.1).0 }, (rows_more rows k d lt (record { object = o; moment = t }) y).1 (inr (record { source = a.0; target = refl; pair = (a.1).1 }))))
      h,
)

arrive_more : (rows : List Row) (k : ℕ) (d : Row) → k < length rows → (o : ℕ) (t : ℤ) → Arrives (take (k + 1) rows) o t ↔ (Arrives (take k rows) o t ⊎ (((slice_index_or rows k d).target.0 ≡ o) × ArrivesIn (slice_index_or rows k d).band t))
arrive_more rows k d lt o t = (
  λ h. ⊎_elim
      (λ a. inl (h.0, a))
      (λ (a : InRow (slice_index_or rows k d) h.0 (record { object = o; moment = t })). inr (a.target, (h.0.moment, a.pair)))
      ((rows_more rows k d lt h.0 (record { object = o; moment = t })).0 h.1),
  λ h. ⊎_elim
      (λ a. (a.0, (rows_more rows k d lt a.0 (record { object = o; moment = t })).1 (inl a.1)))
      (λ a.
      let x : Point = record { object = (slice_index_or rows k d).source.0; moment = (a.1).0 } in
      (record { object = (slice_index_or rows k d).source.0; moment = (a.1).0 }, (rows_more rows k d lt x (record { object = o; moment = t })).1 (inr (record { source = refl; target = a.0; pair = (a.1).1 }))))
      h,
)

-- one more row
have_more : (side : Side) (rows : List Row) (k : ℕ) (d : Row) → k < length rows → (o : ℕ) (t : ℤ) → HaveTime side (take (k + 1) rows) o t ↔ (HaveTime side (take k rows) o t ⊎ HasTime side (slice_index_or rows k d) o t)
have_more Departure rows k d lt o t = depart_more rows k d lt o t
have_more Arrival rows k d lt o t = arrive_more rows k d lt o t

none_have : (side : Side) (rows : List Row) (o : ℕ) (t : ℤ) → HaveTime side (take 0 rows) o t → ⊥
none_have Departure [] o t h = h.1.1
none_have Departure (x ∷ xs) o t h = h.1.1
none_have Arrival [] o t h = h.1.1
none_have Arrival (x ∷ xs) o t h = h.1.1

-- one time row each for the rows that were read
pub record TimesSoFar (side : Side) (rows : List Row) (i : ℕ) (times : List OneRow) : Type 0 where
  pub spans : (r : OneRow) → Among times r → IsSpan r.span
  pub holds : (o : ℕ) (t : ℤ) → TimesHold times o t ↔ HaveTime side (take i rows) o t
  pub count : length times ≡ i

pub no_times : (side : Side) (rows : List Row) (times : List OneRow) → times ≡ [] → TimesSoFar side rows 0 times
no_times side rows times e = subst (λ (v : List OneRow). TimesSoFar side rows 0 v) (sym e) (record { spans = λ r a. absurd a; holds = λ o t. (λ h. absurd h.1, λ h. absurd (none_have side rows o t h)); count = refl })

pub push_time : (side : Side) (rows : List Row) (i : ℕ) (d : Row) → i < length rows → (times : List OneRow) → TimesSoFar side rows i times → (x : OneRow) → ((o : ℕ) (t : ℤ) → InTime x o t ↔ HasTime side (slice_index_or rows i d) o t) → IsSpan x.span
    → (next : List OneRow) → next ≡ times ++ x ∷ [] → TimesSoFar side rows (i + 1) next
push_time side rows i d lt times so x same span next e = subst (λ (v : List OneRow). TimesSoFar side rows (i + 1) v) (sym e) (record {
  spans = λ r a. ⊎_elim (λ b. so.spans r b) (λ b. ⊎_elim (λ (g : x ≡ r). subst (λ (v : OneRow). IsSpan v.span) g span) (λ k. absurd k) b) (among_append times (x ∷ []) r a);
  holds = λ o t.
      let more = have_more side rows i d lt o t in (
        λ h. more.1 (⊎_elim (λ a. inl ((so.holds o t).0 a)) (λ a. inr ((same o t).0 a)) ((hold_more times x o t).0 h)),
        λ h. (hold_more times x o t).1 (⊎_elim (λ a. inl ((so.holds o t).1 a)) (λ a. inr ((same o t).1 a)) (more.0 h)),
      );
  count = let c = so.count in omega (arith, length-append {A = OneRow} times (x ∷ []));
})

pub all_holds : (side : Side) (rows : List Row) (i : ℕ) (times : List OneRow) → length rows ≤ i → TimesSoFar side rows i times → (o : ℕ) (t : ℤ) → TimesHold times o t ↔ HaveTime side rows o t
all_holds side rows i times le so o t = subst (λ (v : List Row). TimesHold times o t ↔ HaveTime side v o t) (take_all i rows le) (so.holds o t)

module _ {E : Type 0} (side : Side) (rows : List Row) (i : ℕ) (times : List OneRow) where
  pub all_times : length rows ≤ i → TimesSoFar side rows i times → (result : Result (List OneRow) E) → IfOk result (λ runs. AreTimes (TimesHold times) runs) → IfOk result (λ runs. AreTimes (HaveTime side rows) runs)
  all_times le so (Ok runs) a = times_alike (TimesHold times) (HaveTime side rows) (λ o t h. (all_holds side rows i times le so o t).0 h) (λ o t h. (all_holds side rows i times le so o t).1 h) runs a
  all_times le so (Err e) a = tt

  pub few_times : i ≤ length rows → TimesSoFar side rows i times → (result : Result (List OneRow) E) → IfOk result (λ runs. length runs ≤ length times) → IfOk result (λ runs. length runs ≤ length rows)
  few_times le so (Ok runs) few = let c = so.count in omega (arith, few, c, le)
  few_times le so (Err e) few = tt
