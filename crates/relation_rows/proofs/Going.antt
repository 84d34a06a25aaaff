-- Ways that begin with a row, and those that begin with one of some rows.
use Rattle.std.proofs.Common.{◌≡◌, ◌↔◌, ◌⊎◌, inl, inr, ⊎_elim, ℕ, zero, suc, ◌+◌, ◌<◌, ◌≤◌, ℤ, ◌-ℤ◌, ◌≤ℤ◌, ◌<ℤ◌, List, [], ◌∷◌, ◌++◌, length, slice_index_or, take, Option, Some, None, false, refl, sym, ◌∙◌, subst, arith, SFits, w64, to_z, of_z, to_z-of_z}
use Rattle.std.proofs.lemmas.Int.{ints}
use Rattle.std.proofs.lemmas.List.{take_more, take_all}
use Rattle.itpg_base.specs.declared.object_number.ObjNo.{ObjNo}
use Rattle.itpg_base.specs.Points.{Point}
use Rattle.zone_core.specs.declared.Bounds.{Bounds}
use Rattle.zone_core.specs.Zone.{Between, Meets, Holds, IsNear, IsZoneOf}
use Rattle.zone_compose.specs.Compose.{HasMiddle, AreArrivals}
use Rattle.itpg_base.specs.Lists.{Among, Ordered}
use Rattle.band_normal.specs.declared.band.Band.{Band}
use Rattle.band_normal.specs.declared.band.End.{End}
use Rattle.band_normal.specs.Bands.{end_at, InBand, IsWellFormed}
use Rattle.itpg_base.proofs.Lists.{among_append, append_first, append_second, among_at}
use Rattle.relation_rows.specs.declared.rows.Row.{Row}
use Rattle.relation_rows.specs.declared.timetable.Leg.{Leg}
use Rattle.relation_rows.specs.Rows.{InRow, RowsHold, RowBefore}
use Rattle.relation_rows.specs.Relations.{Item, InItem, ItemsHold, HasMiddlePoint}
use Rattle.relation_rows.specs.Timetables.{DepartsWithin}
use Rattle.relation_rows.specs.Ways.{ItemThere, GoesBy, GoesOn, GoesOnBy, GoesThrough, IsStill, AreComposed}
use Rattle.relation_rows.proofs.Pushing.{items_more, rows_more}
use Rattle.relation_rows.proofs.Arriving.{end_up}
use Rattle.std.specs.Prelude.{slice_get, int_lt, int_le, IsTrue}

-- an item is pushed where its zone is there
pub pushed_there : (source target : ObjNo) (old next : List Item) (zone : Bounds) (o : Option Bounds) → o ≡ Some zone → next ≡ old ++ (source, target, zone) ∷ []
    → (x y : Point) → ItemsHold next x y ↔ (ItemsHold old x y ⊎ ItemThere source target o x y)
pushed_there source target old next zone o is e x y =
    subst (λ (v : Option Bounds). ItemsHold next x y ↔ (ItemsHold old x y ⊎ ItemThere source target v x y)) (sym is) (items_more old next (source, target, zone) e x y)

pub not_there : (source target : ObjNo) (old : List Item) (x y : Point) → ItemsHold old x y ↔ (ItemsHold old x y ⊎ ItemThere source target None x y)
not_there source target old x y = (λ h. inl h, λ h. ⊎_elim (λ a. a) (λ a. absurd a) h)

there_holds : (source target : ObjNo) (o : Option Bounds) (x y : Point) → ItemThere source target o x y → (source.0 ≡ x.object) × (target.0 ≡ y.object) × Holds o x.moment y.moment
there_holds source target None x y h = absurd h
there_holds source target (Some z) x y h = (h.source, h.target, h.pair)

holds_there : (source target : ObjNo) (o : Option Bounds) (x y : Point) → (source.0 ≡ x.object) → (target.0 ≡ y.object) → Holds o x.moment y.moment → ItemThere source target o x y
holds_there source target None x y e f h = absurd h
holds_there source target (Some z) x y e f h = record { source = e; target = f; pair = h }

-- the ways by the zone and then the row are there
pub pushed_by : (source : ObjNo) (zone : Bounds) (s : Row) (old next : List Item) (way : Option Bounds) → ((t : ℤ) → (u : ℤ) → Holds way t u ↔ GoesThrough zone s.band t u)
    → ((x y : Point) → ItemsHold next x y ↔ (ItemsHold old x y ⊎ ItemThere source s.target way x y)) → (x y : Point) → ItemsHold next x y ↔ (ItemsHold old x y ⊎ GoesBy source zone s x y)
pushed_by source zone s old next way of pushed x y = (
  λ h. ⊎_elim
      (λ a. inl a)
      (λ a. let k = there_holds source s.target way x y a in inr (record { source = k.0; target = k.1; pair = (of x.moment y.moment).0 k.2 }))
      ((pushed x y).0 h),
  λ h. (pushed x y).1 (⊎_elim
      (λ a. inl a)
      (λ (a : GoesBy source zone s x y). inr (holds_there source s.target way x y a.source a.target ((of x.moment y.moment).1 a.pair)))
      h),
)

pub item_at : (items : List Item) (k : ℕ) (i : Item) → slice_get items k ≡ Some i → (x y : Point) → InItem i x y → ItemsHold items x y
item_at [] zero i e x y h = let none : ⊥ = cc in absurd none
item_at [] (suc k) i e x y h = let none : ⊥ = cc in absurd none
item_at (j ∷ js) zero i e x y h = let same : j ≡ i = cc in (i, inl same, h)
item_at (j ∷ js) (suc k) i e x y h = let w = item_at js k i e x y h in (w.0, inr w.1, w.2)

-- the list has them, so that they add nothing
pub had_all : (source : ObjNo) (zone : Bounds) (s : Row) (items : List Item) → ((x y : Point) → GoesBy source zone s x y → ItemsHold items x y)
    → (x y : Point) → ItemsHold items x y ↔ (ItemsHold items x y ⊎ GoesBy source zone s x y)
had_all source zone s items has x y = (λ h. inl h, λ h. ⊎_elim (λ a. a) (λ a. has x y a) h)

-- there are none, so that they add nothing
pub missed_all : (source : ObjNo) (zone : Bounds) (s : Row) (items : List Item) → ((t u : ℤ) → ¬ GoesThrough zone s.band t u)
    → (x y : Point) → ItemsHold items x y ↔ (ItemsHold items x y ⊎ GoesBy source zone s x y)
missed_all source zone s items missed = had_all source zone s items (λ x y g. absurd (missed x.moment y.moment g.pair))

-- differences of a band's first and last arrival and a zone's departures are in range
pub soon_fits : (band : Band) (low : ℤ) → IsWellFormed band → low ≡ end_at band.low band.from → (k : Bounds) → IsNear k → SFits w64 (to_z w64 (of_z w64 low) -ℤ to_z w64 (of_z w64 k.b))
soon_fits band low formed is k near =
    let span = formed.span in
    let moment = formed.low band.from (omega (arith, ints)) span in
    let above = moment.above in
    let below = moment.below in
    let first = near.b in
    let begins = first.above in
    let ends = first.below in
    let fits : SFits w64 low = omega (arith, ints, is, above, below) in
    let bound : SFits w64 k.b = omega (arith, ints, begins, ends) in
    rw (to_z-of_z fits, to_z-of_z bound) (omega (arith, ints, is, above, below, begins, ends))

pub late_fits : (band : Band) (high : ℤ) → IsWellFormed band → high ≡ end_at band.high band.to → (k : Bounds) → IsNear k → SFits w64 (to_z w64 (of_z w64 high) -ℤ to_z w64 (of_z w64 k.a))
late_fits band high formed is k near =
    let span = formed.span in
    let moment = formed.high band.to span (omega (arith, ints)) in
    let above = moment.above in
    let below = moment.below in
    let first = near.a in
    let begins = first.above in
    let ends = first.below in
    let fits : SFits w64 high = omega (arith, ints, is, above, below) in
    let bound : SFits w64 k.a = omega (arith, ints, begins, ends) in
    rw (to_z-of_z fits, to_z-of_z bound) (omega (arith, ints, is, above, below, begins, ends))

pub soon_enough : (band : Band) (low : ℤ) → IsWellFormed band → low ≡ end_at band.low band.from → (k : Bounds) → IsNear k → (z : ℤ) → SFits w64 z
    → int_lt (to_z w64 (of_z w64 (to_z w64 (of_z w64 low) -ℤ to_z w64 (of_z w64 k.b)))) (to_z w64 (of_z w64 z)) ≡ false → z ≤ℤ (low -ℤ k.b)
soon_enough band low formed is k near z room test =
    let whole = to_z-of_z (soon_fits band low formed is k near) in
    let moment = formed.low band.from (omega (arith, ints)) formed.span in
    let above = moment.above in
    let below = moment.below in
    let begins = near.b.above in
    let ends = near.b.below in
    let fits : SFits w64 low = omega (arith, ints, is, above, below) in
    let bound : SFits w64 k.b = omega (arith, ints, begins, ends) in
    let one = to_z-of_z fits in
    let two = to_z-of_z bound in
    let three = to_z-of_z room in
    omega (arith, ints, whole, one, two, three, test)

pub late_enough : (band : Band) (high : ℤ) → IsWellFormed band → high ≡ end_at band.high band.to → (k : Bounds) → IsNear k → (z : ℤ) → SFits w64 z
    → IsTrue (int_le (to_z w64 (of_z w64 (to_z w64 (of_z w64 high) -ℤ to_z w64 (of_z w64 k.a)))) (to_z w64 (of_z w64 z))) → (high -ℤ k.a) ≤ℤ z
late_enough band high formed is k near z room test =
    let whole = to_z-of_z (late_fits band high formed is k near) in
    let moment = formed.high band.to formed.span (omega (arith, ints)) in
    let above = moment.above in
    let below = moment.below in
    let begins = near.a.above in
    let ends = near.a.below in
    let fits : SFits w64 high = omega (arith, ints, is, above, below) in
    let bound : SFits w64 k.a = omega (arith, ints, begins, ends) in
    let one = to_z-of_z fits in
    let two = to_z-of_z bound in
    let three = to_z-of_z room in
    omega (arith, ints, whole, one, two, three, test)

-- a zone that has all departures of the first zone with all arrivals of the band has each pair that goes through
pub around : (all first : Bounds) (band : Band) (low high : ℤ) → low ≡ end_at band.low band.from → high ≡ end_at band.high band.to
    → all.a ≤ℤ first.a → first.b ≤ℤ all.b → all.c ≤ℤ low → high ≤ℤ all.d → all.e ≤ℤ (low -ℤ first.b) → (high -ℤ first.a) ≤ℤ all.f
    → (t : ℤ) → (u : ℤ) → GoesThrough first band t u → Meets all t u
around all first band low high is_low is_high begins ends least greatest soon late t u w =
    let m = w.1 in
    let i = w.2 in
    let up = end_up band.low band.from w.0 i.from in
    let down = end_up band.high w.0 band.to i.to in
    let after = m.from in
    let before = m.to in
    let above = i.low in
    let below = i.high in
    record {
      from = omega (arith, ints, begins, after);
      to = omega (arith, ints, ends, before);
      low = omega (arith, ints, is_low, least, up, above);
      high = omega (arith, ints, is_high, greatest, down, below);
      least = omega (arith, ints, is_low, soon, up, above, before);
      most = omega (arith, ints, is_high, late, down, below, after);
    }

-- a composed zone has the pairs that go through
pub through : (zone second : Bounds) (band : Band) → ((t u : ℤ) → Meets second t u ↔ InBand band t u) → (way : Option Bounds) → IsZoneOf (HasMiddle zone second) way → (t : ℤ) → (u : ℤ) → Holds way t u ↔ GoesThrough zone band t u
through zone second band its way of t u = (
  λ h. let w = (of.pairs t u).0 h in (w.middle, w.left, (its w.middle u).0 w.right),
  λ h. (of.pairs t u).1 (record { middle = h.0; left = h.1; right = (its h.0 u).1 h.2 }),
)

-- by a still band go the pairs that arrive while it departs
pub still_through : (zone : Bounds) (band : Band) → IsStill band → (way : Option Bounds) → ((t : ℤ) → (u : ℤ) → Holds way t u ↔ (Meets zone t u × Between band.from band.to u)) → (t : ℤ) → (u : ℤ) → Holds way t u ↔ GoesThrough zone band t u
still_through zone band is way of t u = (
  λ h. let w = (of t u).0 h in (
    u,
    w.0,
    record {
      from = (w.1).above;
      to = (w.1).below;
      low = subst (λ (v : End). end_at v u ≤ℤ u) (sym is.0) (omega (arith, ints));
      high = subst (λ (v : End). u ≤ℤ end_at v u) (sym is.1) (omega (arith, ints));
    },
  ),
  λ h.
      let i = h.2 in
      let low = subst (λ (v : End). end_at v h.0 ≤ℤ u) is.0 i.low in
      let high = subst (λ (v : End). u ≤ℤ end_at v h.0) is.1 i.high in
      let same : h.0 ≡ u = omega (arith, ints) in
      let from = i.from in
      let to = i.to in
      (of t u).1 (subst (λ (v : ℤ). Meets zone t v) same h.1, record { above = omega (arith, ints); below = omega (arith, ints) }),
)

-- no pair goes through where the band departs too soon or too late
pub none_through : (zone : Bounds) (first last : ℤ) (band : Band) → AreArrivals zone first last → (band.to <ℤ first) ⊎ (last <ℤ band.from) → (t : ℤ) → (u : ℤ) → Holds None t u ↔ GoesThrough zone band t u
none_through zone first last band span apart t u = (λ h. absurd h, λ h. absurd (missed h.0 (span.least t h.0 h.1) (span.greatest t h.0 h.1) h.2.from h.2.to apart))
  where
    missed : (s : ℤ) → first ≤ℤ s → s ≤ℤ last → band.from ≤ℤ s → s ≤ℤ band.to → (band.to <ℤ first) ⊎ (last <ℤ band.from) → ⊥
    missed s low high from to (inl l) = omega (arith, ints)
    missed s low high from to (inr l) = omega (arith, ints)

module _ (row : Row) (zone : Bounds) (is : (t u : ℤ) → Meets zone t u ↔ InBand row.band t u) where
  -- the ways by the zone and then one row
  by_one : (s : Row) → s.source.0 ≡ row.target.0 → (x y : Point) → GoesBy row.source zone s x y ↔ ((m : Point) × InRow row x m × InRow s m y)
  by_one s same x y = (
    λ h.
        let w = h.pair in (
          record { object = row.target.0; moment = w.0 },
          record { source = h.source; target = refl; pair = (is x.moment w.0).0 w.1 },
          record { source = same; target = h.target; pair = w.2 },
        ),
    λ h.
        let a = h.1 in let b = h.2 in
        record { source = a.source; target = b.target; pair = ((h.0).moment, (is x.moment (h.0).moment).1 a.pair, b.pair) },
  )

  -- one more row
  pub next_more : (items now next : List Item) (here : List Row) (k : ℕ) (d : Row) → k < length here
      → (slice_index_or here k d).source.0 ≡ row.target.0
      → ((x y : Point) → ItemsHold next x y ↔ (ItemsHold now x y ⊎ GoesBy row.source zone (slice_index_or here k d) x y))
      → ((x y : Point) → ItemsHold now x y ↔ (ItemsHold items x y ⊎ GoesOn row (take k here) x y))
      → (x y : Point) → ItemsHold next x y ↔ (ItemsHold items x y ⊎ GoesOn row (take (k + 1) here) x y)
  next_more items now next here k d lt same pushed old x y =
      let one = by_one (slice_index_or here k d) same x y in (
        λ h. ⊎_elim
            (λ a. ⊎_elim
            (λ b. inl b)
            (λ (b : GoesOn row (take k here) x y). inr (b.0, b.1, (rows_more here k d lt b.0 y).1 (inl b.2)))
            ((old x y).0 a))
            (λ a. let w = one.0 a in inr (w.0, w.1, (rows_more here k d lt w.0 y).1 (inr w.2)))
            ((pushed x y).0 h),
        λ h. ⊎_elim
            (λ a. (pushed x y).1 (inl ((old x y).1 (inl a))))
            (λ (b : GoesOn row (take (k + 1) here) x y). ⊎_elim
            (λ c. (pushed x y).1 (inl ((old x y).1 (inr (b.0, b.1, c)))))
            (λ c. (pushed x y).1 (inr (one.1 (b.0, b.1, c))))
            ((rows_more here k d lt b.0 y).0 b.2))
            h,
      )

  -- one more leg
  pub leg_more : (items now next : List Item) (legs : List Leg) (k : ℕ) (d : Leg) → k < length legs
      → (slice_index_or legs k d).row.source.0 ≡ row.target.0
      → ((x y : Point) → ItemsHold next x y ↔ (ItemsHold now x y ⊎ GoesBy row.source zone (slice_index_or legs k d).row x y))
      → ((x y : Point) → ItemsHold now x y ↔ (ItemsHold items x y ⊎ GoesOnBy row (take k legs) x y))
      → (x y : Point) → ItemsHold next x y ↔ (ItemsHold items x y ⊎ GoesOnBy row (take (k + 1) legs) x y)
  leg_more items now next legs k d lt same pushed old x y =
      let s : Leg = slice_index_or legs k d in
      let e = take_more legs k d lt in
      let one = by_one (slice_index_or legs k d).row same x y in (
        λ h. ⊎_elim
            (λ a. ⊎_elim
            (λ b. inl b)
            (λ (b : GoesOnBy row (take k legs) x y). let g = b.2 in inr (b.0, b.1, (g.0, subst (λ (v : List Leg). Among v g.0) (sym e) (append_first (take k legs) (s ∷ []) g.0 g.1), g.2)))
            ((old x y).0 a))
            (λ a. let w = one.0 a in inr (w.0, w.1, (s, subst (λ (v : List Leg). Among v s) (sym e) (append_second (take k legs) (s ∷ []) s (inl refl)), w.2)))
            ((pushed x y).0 h),
        λ h. ⊎_elim
            (λ a. (pushed x y).1 (inl ((old x y).1 (inl a))))
            (λ (b : GoesOnBy row (take (k + 1) legs) x y).
            let g = b.2 in
            ⊎_elim
            (λ c. (pushed x y).1 (inl ((old x y).1 (inr (b.0, b.1, (g.0, c, g.2))))))
            (λ c. ⊎_elim (λ (f : slice_index_or legs k d ≡ g.0). (pushed x y).1 (inr (one.1 (b.0, b.1, subst (λ (v : Leg). InRow v.row b.0 y) (sym f) g.2)))) (λ j. absurd j) c)
            (among_append (take k legs) (s ∷ []) g.0 (subst (λ (v : List Leg). Among v g.0) e g.1)))
            h,
      )

  -- the legs found are all by which the row goes on
  module _ (legs found : List Leg) (first last : ℤ) (span : AreArrivals zone first last)
      (are : (s : Leg) → Among found s ↔ (Among legs s × DepartsWithin s row.target.0 first last)) where
    pub all_ways : (items now : List Item) (k : ℕ) → length found ≤ k → ((x y : Point) → ItemsHold now x y ↔ (ItemsHold items x y ⊎ GoesOnBy row (take k found) x y))
        → (x y : Point) → ItemsHold now x y ↔ (ItemsHold items x y ⊎ GoesOnBy row legs x y)
    all_ways items now k le old x y =
        let e = take_all k found le in (
          λ h. ⊎_elim
              (λ a. inl a)
              (λ (b : GoesOnBy row (take k found) x y). let g = b.2 in inr (b.0, b.1, (g.0, ((are g.0).0 (subst (λ (v : List Leg). Among v g.0) e g.1)).0, g.2)))
              ((old x y).0 h),
          λ h. ⊎_elim
              (λ a. (old x y).1 (inl a))
              (λ (b : GoesOnBy row legs x y).
              let g = b.2 in
              let i = b.1 in
              let j = g.2 in
              let q = j.pair in
              let arrives = (is x.moment (b.0).moment).1 i.pair in
              let low = span.least x.moment (b.0).moment arrives in
              let high = span.greatest x.moment (b.0).moment arrives in
              let begins = q.from in
              let ends = q.to in
              (old x y).1 (inr (b.0, b.1, (g.0, subst (λ (v : List Leg). Among v g.0) (sym e) ((are g.0).1 (g.1, record { source = j.source ∙ sym i.target; begins = omega (arith, ints); ends = omega (arith, ints) })), g.2))))
              h,
        )

pub no_ways : (row : Row) (items : List Item) (x y : Point) → ItemsHold items x y ↔ (ItemsHold items x y ⊎ GoesOnBy row [] x y)
no_ways row items x y = (λ h. inl h, λ h. ⊎_elim (λ a. a) (λ (b : GoesOnBy row [] x y). absurd ((b.2).1)) h)

-- no rows were read
pub none_next : (row : Row) (items : List Item) (here : List Row) (x y : Point) → ItemsHold items x y ↔ (ItemsHold items x y ⊎ GoesOn row (take 0 here) x y)
none_next row items here x y = (λ h. inl h, λ h. ⊎_elim (λ a. a) (λ (b : GoesOn row (take 0 here) x y). absurd (none here b.2)) h)
  where
    none : (xs : List Row) {m : Point} → RowsHold (take 0 xs) m y → ⊥
    none [] h = h.1
    none (z ∷ zs) h = h.1

pub all_next : (row : Row) (items now : List Item) (here : List Row) (k : ℕ) → length here ≤ k → ((x y : Point) → ItemsHold now x y ↔ (ItemsHold items x y ⊎ GoesOn row (take k here) x y))
    → (x y : Point) → ItemsHold now x y ↔ (ItemsHold items x y ⊎ GoesOn row here x y)
all_next row items now here k le = subst (λ (v : List Row). (x y : Point) → ItemsHold now x y ↔ (ItemsHold items x y ⊎ GoesOn row v x y)) (take_all k here le)

-- the rows from the row's target are all by which it goes on
module _ (row : Row) (second here : List Row) (are : (r : Row) → Among here r ↔ (Among second r × (r.source.0 ≡ row.target.0))) (items next : List Item) where
  pub by_rows_from : ((x y : Point) → ItemsHold next x y ↔ (ItemsHold items x y ⊎ GoesOn row here x y)) → (x y : Point) → ItemsHold next x y ↔ (ItemsHold items x y ⊎ GoesOn row second x y)
  by_rows_from pushed x y = (
    λ h. ⊎_elim (λ a. inl a) (λ (b : GoesOn row here x y). let g = b.2 in inr (b.0, b.1, (g.0, ((are g.0).0 g.1).0, g.2))) ((pushed x y).0 h),
    λ h. (pushed x y).1 (⊎_elim (λ a. inl a) (λ (b : GoesOn row second x y). inr (b.0, b.1, from_target b.0 b.1 b.2)) h),
  )
    where
      from_target : (m : Point) → InRow row x m → RowsHold second m y → RowsHold here m y
      from_target m i g = let j = g.2 in (g.0, (are g.0).1 (g.1, j.source ∙ sym i.target), g.2)

  -- and so are their legs, where there are many
  pub by_busy : (busy : List Leg) → AreComposed second busy → Ordered RowBefore here → 8 < length here → 0 < length busy → ((x y : Point) → ItemsHold next x y ↔ (ItemsHold items x y ⊎ GoesOnBy row busy x y))
      → (x y : Point) → ItemsHold next x y ↔ (ItemsHold items x y ⊎ GoesOn row second x y)
  by_busy busy is order many some pushed x y = (
    λ h. ⊎_elim (λ a. inl a) (λ (b : GoesOnBy row busy x y). inr (b.0, b.1, is.there b.0 y b.2)) ((pushed x y).0 h),
    λ h. (pushed x y).1 (⊎_elim (λ a. inl a) (λ (b : GoesOn row second x y). inr (b.0, b.1, is.all row.target.0 here (order, are) many some b.0 y (from_target b.0 b.1 b.2))) h),
  )
    where
      from_target : (m : Point) → InRow row x m → RowsHold second m y → RowsHold here m y
      from_target m i g = let j = g.2 in (g.0, (are g.0).1 (g.1, j.source ∙ sym i.target), g.2)

-- one more row
pub row_more : (base now pushed next : List Item) (rows : List Row) (second : List Row) (k : ℕ) (d : Row) → k < length rows
    → ((x y : Point) → ItemsHold pushed x y ↔ (ItemsHold now x y ⊎ GoesOn (slice_index_or rows k d) second x y))
    → ((x y : Point) → ItemsHold next x y ↔ ItemsHold pushed x y)
    → ((x y : Point) → ItemsHold now x y ↔ (ItemsHold base x y ⊎ HasMiddlePoint (take k rows) second x y))
    → (x y : Point) → ItemsHold next x y ↔ (ItemsHold base x y ⊎ HasMiddlePoint (take (k + 1) rows) second x y)
row_more base now pushed next rows second k d lt push same old x y = (
  λ h. ⊎_elim
      (λ a. ⊎_elim (λ b. inl b) (λ (w : HasMiddlePoint (take k rows) second x y). inr (w.0, (rows_more rows k d lt x w.0).1 (inl w.1), w.2)) ((old x y).0 a))
      (λ (a : GoesOn (slice_index_or rows k d) second x y). inr (a.0, (rows_more rows k d lt x a.0).1 (inr a.1), a.2))
      ((push x y).0 ((same x y).0 h)),
  λ h. (same x y).1 (⊎_elim
      (λ a. (push x y).1 (inl ((old x y).1 (inl a))))
      (λ (w : HasMiddlePoint (take (k + 1) rows) second x y). ⊎_elim
      (λ a. (push x y).1 (inl ((old x y).1 (inr (w.0, a, w.2)))))
      (λ a. (push x y).1 (inr (w.0, a, w.2)))
      ((rows_more rows k d lt x w.0).0 w.1))
      h),
)

pub no_rows : (items : List Item) (rows : List Row) (second : List Row) (x y : Point) → ItemsHold items x y ↔ (ItemsHold items x y ⊎ HasMiddlePoint (take 0 rows) second x y)
no_rows items rows second x y = (λ h. inl h, λ h. ⊎_elim (λ a. a) (λ (w : HasMiddlePoint (take 0 rows) second x y). absurd (none rows w.1)) h)
  where
    none : (xs : List Row) {x y : Point} → RowsHold (take 0 xs) x y → ⊥
    none [] h = h.1
    none (z ∷ zs) h = h.1

pub every_row : (base items : List Item) (rows : List Row) (second : List Row) (k : ℕ) → length rows ≤ k → ((x y : Point) → ItemsHold items x y ↔ (ItemsHold base x y ⊎ HasMiddlePoint (take k rows) second x y))
    → (x y : Point) → ItemsHold items x y ↔ (ItemsHold base x y ⊎ HasMiddlePoint rows second x y)
every_row base items rows second k le = subst (λ (v : List Row). (x y : Point) → ItemsHold items x y ↔ (ItemsHold base x y ⊎ HasMiddlePoint v second x y)) (take_all k rows le)

pub leg_formed : (legs found : List Leg) (k : ℕ) (d : Leg) → k < length found → ((s : Leg) → Among found s → Among legs s) → ((s : Leg) → Among legs s → IsWellFormed s.row.band) → IsWellFormed (slice_index_or found k d).row.band
leg_formed legs found k d lt there formed = formed (slice_index_or found k d) (there (slice_index_or found k d) (among_at found k d lt))

pub leg_source : (found : List Leg) (o k : ℕ) (d : Leg) → k < length found → ((s : Leg) → Among found s → s.row.source.0 ≡ o) → (slice_index_or found k d).row.source.0 ≡ o
leg_source found o k d lt same = same (slice_index_or found k d) (among_at found k d lt)

pub row_formed : (rows : List Row) (k : ℕ) (d : Row) → k < length rows → ((r : Row) → Among rows r → IsWellFormed r.band) → IsWellFormed (slice_index_or rows k d).band
row_formed rows k d lt formed = formed (slice_index_or rows k d) (among_at rows k d lt)
