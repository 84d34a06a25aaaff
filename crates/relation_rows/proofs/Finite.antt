-- Lists of rows and of items hold finitely many pairs, and it is decided which: so what is worked out from them has normal rows.
use Rattle.std.proofs.Common.{◌≡◌, ◌⊎◌, inl, inr, ⊎_elim, ℕ, suc, ◌+◌, ◌<◌, ℤ, pos, ◌-ℤ◌, ◌≤ℤ◌, List, [], ◌∷◌, refl, sym, subst, arith}
use Rattle.std.proofs.lemmas.Int.{ints, by_lt_z}
use borrow.Author.Differences.{up, down}
use Rattle.itpg_base.specs.declared.object_number.ObjNo.{ObjNo}
use Rattle.itpg_base.specs.Decided.{Decided}
use Rattle.itpg_base.specs.Lists.{Among}
use Rattle.itpg_base.specs.Points.{Point, Relation}
use Rattle.itpg_base.specs.Spans.{Span}
use Rattle.itpg_base.proofs.PointSearch.{same_point, within_span}
use Rattle.itpg_base.proofs.Searches.{both, either, fails, as_well, same_number, not_after, some_from}
use Rattle.zone_core.specs.declared.Bounds.{Bounds}
use Rattle.zone_core.specs.Zone.{Between, Meets}
use Rattle.band_normal.specs.declared.band.Band.{Band}
use Rattle.band_normal.specs.Bands.{end_at, InBand}
use Rattle.relation_rows.specs.declared.rows.Row.{Row}
use Rattle.relation_rows.specs.Rows.{InRow, RowsHold, IsFinite, HasRows}
use Rattle.relation_rows.specs.Relations.{Item, InItem, ItemsHold, IsOneOf, IsItself, IsBetween, EitherHolds, HasMiddlePoint, OnlyFirstHolds}
use Rattle.relation_rows.proofs.Arriving.{end_up}
use Rattle.relation_rows.proofs.Exists.{rows_exist}

-- it joins finitely many points
abbrev IsBounded : Relation → Type 0
IsBounded R = (objects : ℕ) × (low : ℤ) × (high : ℤ) × IsFinite objects low high R

-- a moment that is after neither, and one that is before neither
pub lower_of : (a b : ℤ) → (m : ℤ) × (m ≤ℤ a) × (m ≤ℤ b)
lower_of a b = by_lt_z a b (λ lt. (a, omega (arith, ints), omega (arith, ints))) (λ le. (b, le, omega (arith, ints)))

pub upper_of : (a b : ℤ) → (m : ℤ) × (a ≤ℤ m) × (b ≤ℤ m)
upper_of a b = by_lt_z a b (λ lt. (b, omega (arith, ints), omega (arith, ints))) (λ le. (a, omega (arith, ints), le))

pub between_wider : (low high least greatest t : ℤ) → least ≤ℤ low → high ≤ℤ greatest → Between low high t → Between least greatest t
between_wider low high least greatest t l h b =
    let above = b.above in
    let below = b.below in
    record { above = omega (arith, ints); below = omega (arith, ints) }

narrower : (R S : Relation) → ((x y : Point) → S x y → R x y) → IsBounded R → IsBounded S
narrower R S f b =
    let n = b.3 in
    (b.0, b.1, b.2, record { source = λ x y h. n.source x y (f x y h); target = λ x y h. n.target x y (f x y h); departs = λ x y h. n.departs x y (f x y h); arrives = λ x y h. n.arrives x y (f x y h) })

either_bounded : (R S : Relation) → IsBounded R → IsBounded S → IsBounded (λ x y. R x y ⊎ S x y)
either_bounded R S a b =
    let l = lower_of a.1 b.1 in
    let h = upper_of a.2 b.2 in
    let m = a.3 in
    let n = b.3 in (
      a.0 + b.0,
      l.0,
      h.0,
      record {
        source = λ x y k. ⊎_elim (λ i. let s = m.source x y i in omega arith) (λ i. let s = n.source x y i in omega arith) k;
        target = λ x y k. ⊎_elim (λ i. let s = m.target x y i in omega arith) (λ i. let s = n.target x y i in omega arith) k;
        departs = λ x y k. ⊎_elim (λ i. between_wider a.1 a.2 l.0 h.0 x.moment l.1 h.1 (m.departs x y i)) (λ i. between_wider b.1 b.2 l.0 h.0 x.moment l.2 h.2 (n.departs x y i)) k;
        arrives = λ x y k. ⊎_elim (λ i. between_wider a.1 a.2 l.0 h.0 y.moment l.1 h.1 (m.arrives x y i)) (λ i. between_wider b.1 b.2 l.0 h.0 y.moment l.2 h.2 (n.arrives x y i)) k;
      },
    )

-- ---- lists of what holds pairs

module _ {X : Type 0} (In : X → Relation) where
  abbrev SomeIn : List X → Relation
  SomeIn xs x y = (i : X) × Among xs i × In i x y

  first_or_rest : (i : X) (xs : List X) (x y : Point) → SomeIn (i ∷ xs) x y → In i x y ⊎ SomeIn xs x y
  first_or_rest i xs x y h = ⊎_elim (λ (e : i ≡ h.0). inl (subst (λ (v : X). In v x y) (sym e) h.2)) (λ a. inr (h.0, a, h.2)) h.1

  some_of_either : (i : X) (xs : List X) (x y : Point) → In i x y ⊎ SomeIn xs x y → SomeIn (i ∷ xs) x y
  some_of_either i xs x y (inl h) = (i, inl refl, h)
  some_of_either i xs x y (inr h) = (h.0, inr h.1, h.2)

  some_bounded : ((i : X) → IsBounded (In i)) → (xs : List X) → IsBounded (SomeIn xs)
  some_bounded each [] = (0, pos 0, pos 0, record { source = λ x y h. absurd h.1; target = λ x y h. absurd h.1; departs = λ x y h. absurd h.1; arrives = λ x y h. absurd h.1 })
  some_bounded each (i ∷ xs) = narrower (λ x y. In i x y ⊎ SomeIn xs x y) (SomeIn (i ∷ xs)) (first_or_rest i xs) (either_bounded (In i) (SomeIn xs) (each i) (some_bounded each xs))

  some_decided : ((i : X) (x y : Point) → Decided (In i x y)) → (xs : List X) (x y : Point) → Decided (SomeIn xs x y)
  some_decided each [] x y = inr (λ h. h.1)
  some_decided each (i ∷ xs) x y = as_well (some_of_either i xs x y) (first_or_rest i xs x y) (either (each i x y) (some_decided each xs x y))

-- ---- rows

band_between : (b : Band) (low high t u : ℤ) → low ≤ℤ b.from → low ≤ℤ end_at b.low b.from → b.to ≤ℤ high → end_at b.high b.to ≤ℤ high → InBand b t u → Between low high t × Between low high u
band_between b low high t u lf ll th hh i =
    let from = i.from in
    let to = i.to in
    let down = i.low in
    let up = i.high in
    let below = end_up b.low b.from t from in
    let above = end_up b.high t b.to to in
    (record { above = omega (arith, ints); below = omega (arith, ints) }, record { above = omega (arith, ints); below = omega (arith, ints) })

row_bounded : (r : Row) → IsBounded (InRow r)
row_bounded r =
    let l = lower_of r.band.from (end_at r.band.low r.band.from) in
    let h = upper_of r.band.to (end_at r.band.high r.band.to) in (
      r.source.0 + r.target.0 + 1,
      l.0,
      h.0,
      record {
        source = λ x y i. let s = i.source in omega arith;
        target = λ x y i. let s = i.target in omega arith;
        departs = λ x y i. (band_between r.band l.0 h.0 x.moment y.moment l.1 l.2 h.1 h.2 i.pair).0;
        arrives = λ x y i. (band_between r.band l.0 h.0 x.moment y.moment l.1 l.2 h.1 h.2 i.pair).1;
      },
    )

decide_band : (b : Band) (t u : ℤ) → Decided (InBand b t u)
decide_band b t u = as_well
    (λ h. record { from = h.0; to = h.1.0; low = h.1.1.0; high = h.1.1.1 })
    (λ i. (i.from, (i.to, (i.low, i.high))))
    (both (not_after b.from t) (both (not_after t b.to) (both (not_after (end_at b.low t) u) (not_after u (end_at b.high t)))))

decide_row : (r : Row) (x y : Point) → Decided (InRow r x y)
decide_row r x y = as_well
    (λ h. record { source = h.0; target = h.1.0; pair = h.1.1 })
    (λ i. (i.source, (i.target, i.pair)))
    (both (same_number r.source.0 x.object) (both (same_number r.target.0 y.object) (decide_band r.band x.moment y.moment)))

rows_bounded : (rows : List Row) → IsBounded (RowsHold rows)
rows_bounded rows = some_bounded InRow row_bounded rows

-- it is decided whether rows hold a pair
pub decide_rows : (rows : List Row) (x y : Point) → Decided (RowsHold rows x y)
decide_rows rows x y = some_decided InRow decide_row rows x y

-- ---- ways by a row and a row of a list

abbrev LeadsOn : List Row → Row → Relation
LeadsOn second r x y = (m : Point) × InRow r x m × RowsHold second m y

decide_way : (second : List Row) (r : Row) (x y : Point) → Decided (LeadsOn second r x y)
decide_way second r x y =
    let low = end_at r.band.low x.moment in
    let high = end_at r.band.high x.moment in
    as_well
    (λ h. (record { object = r.target.0; moment = h.1.0 }, record { source = h.0; target = refl; pair = h.1.3.0 }, h.1.3.1))
    (λ h.
    let i = h.1 in
    let p = i.pair in
    let first = p.low in
    let last = p.high in
    (i.source, ((h.0).moment, first, omega (arith, ints), (p, subst (λ (v : ℕ). RowsHold second (record { object = v; moment = (h.0).moment }) y) (sym i.target) h.2))))
    (both (same_number r.source.0 x.object)
    (some_from (suc (up high + down low)) low (λ t. InBand r.band x.moment t × RowsHold second (record { object = r.target.0; moment = t }) y)
    (λ t. both (decide_band r.band x.moment t) (decide_rows second (record { object = r.target.0; moment = t }) y))))

way_of : (first second : List Row) (x y : Point) → HasMiddlePoint first second x y → SomeIn (LeadsOn second) first x y
way_of first second x y h = let k = h.1 in (k.0, k.1, (h.0, k.2, h.2))

of_way : (first second : List Row) (x y : Point) → SomeIn (LeadsOn second) first x y → HasMiddlePoint first second x y
of_way first second x y h = let w = h.2 in (w.0, (h.0, h.1, w.1), w.2)

middle_bounded : (first second : List Row) → IsBounded (HasMiddlePoint first second)
middle_bounded first second =
    let b = either_bounded (RowsHold first) (RowsHold second) (rows_bounded first) (rows_bounded second) in
    let n = b.3 in (
      b.0,
      b.1,
      b.2,
      record {
        source = λ x y h. n.source x h.0 (inl h.1);
        target = λ x y h. n.target h.0 y (inr h.2);
        departs = λ x y h. n.departs x h.0 (inl h.1);
        arrives = λ x y h. n.arrives h.0 y (inr h.2);
      },
    )

-- ---- items and objects

item_bounded : (i : Item) → IsBounded (InItem i)
item_bounded i =
    let k = i.2 in
    let l = lower_of k.a k.c in
    let h = upper_of k.b k.d in (
      i.0.0 + i.1.0 + 1,
      l.0,
      h.0,
      record {
        source = λ x y n. let s = n.source in omega arith;
        target = λ x y n. let s = n.target in omega arith;
        departs = λ x y n. let p = n.pair in between_wider k.a k.b l.0 h.0 x.moment l.1 h.1 (record { above = p.from; below = p.to });
        arrives = λ x y n. let p = n.pair in between_wider k.c k.d l.0 h.0 y.moment l.2 h.2 (record { above = p.low; below = p.high });
      },
    )

decide_meets : (k : Bounds) (t u : ℤ) → Decided (Meets k t u)
decide_meets k t u = as_well
    (λ h. record { from = h.0.0; to = h.0.1; low = h.1.0; high = h.1.1.0; least = h.1.1.1.0; most = h.1.1.1.1 })
    (λ m. ((m.from, m.to), (m.low, (m.high, (m.least, m.most)))))
    (both (both (not_after k.a t) (not_after t k.b)) (both (not_after k.c u) (both (not_after u k.d) (both (not_after k.e (u -ℤ t)) (not_after (u -ℤ t) k.f)))))

decide_item : (i : Item) (x y : Point) → Decided (InItem i x y)
decide_item i x y = as_well
    (λ h. record { source = h.0; target = h.1.0; pair = h.1.1 })
    (λ n. (n.source, (n.target, n.pair)))
    (both (same_number i.0.0 x.object) (both (same_number i.1.0 y.object) (decide_meets i.2 x.moment y.moment)))

one_below : (objects : List ObjNo) → (most : ℕ) × ((o : ℕ) → IsOneOf objects o → o < most)
one_below [] = (0, λ o h. absurd h.1)
one_below (p ∷ rest) =
    let b = one_below rest in (
      p.0 + 1 + b.0,
      λ o h. ⊎_elim
          (λ (e : p ≡ h.0). let same : p.0 ≡ o = subst (λ (v : ObjNo). v.0 ≡ o) (sym e) h.2 in omega arith)
          (λ a. let l = b.1 o (h.0, a, h.2) in omega arith)
          h.1,
    )

decide_one_of : (objects : List ObjNo) (o : ℕ) → Decided (IsOneOf objects o)
decide_one_of [] o = inr (λ h. h.1)
decide_one_of (p ∷ rest) o = as_well
    (λ h. ⊎_elim (λ e. (p, inl refl, e)) (λ k. (k.0, inr k.1, k.2)) h)
    (λ h. ⊎_elim (λ (e : p ≡ h.0). inl (subst (λ (v : ObjNo). v.0 ≡ o) (sym e) h.2)) (λ a. inr (h.0, a, h.2)) h.1)
    (either (same_number p.0 o) (decide_one_of rest o))

itself_bounded : (objects : List ObjNo) (horizon : Span) → IsBounded (IsItself objects horizon)
itself_bounded objects horizon =
    let b = one_below objects in (
      b.0,
      horizon.from,
      horizon.to,
      record {
        source = λ x y h. b.1 x.object h.object;
        target = λ x y h. subst (λ (v : Point). v.object < b.0) h.same (b.1 x.object h.object);
        departs = λ x y h. let w = h.moment in record { above = w.begun; below = w.going };
        arrives = λ x y h. let w = h.moment in subst (λ (v : Point). Between horizon.from horizon.to v.moment) h.same (record { above = w.begun; below = w.going });
      },
    )

decide_itself : (objects : List ObjNo) (horizon : Span) (x y : Point) → Decided (IsItself objects horizon x y)
decide_itself objects horizon x y = as_well
    (λ h. record { same = h.0; object = h.1.0; moment = h.1.1 })
    (λ h. (h.same, (h.object, h.moment)))
    (both (same_point x y) (both (decide_one_of objects x.object) (within_span x.moment horizon)))

decide_between : (rows : List Row) (sources targets : List ObjNo) (x y : Point) → Decided (IsBetween rows sources targets x y)
decide_between rows sources targets x y = as_well
    (λ h. record { held = h.0; source = h.1.0; target = h.1.1 })
    (λ h. (h.held, (h.source, h.target)))
    (both (decide_rows rows x y) (both (decide_one_of sources x.object) (decide_one_of targets y.object)))

-- ---- what each call works out has normal rows

listed : (R : Relation) → IsBounded R → ((x y : Point) → Decided (R x y)) → HasRows R
listed R b decide = rows_exist b.0 b.1 b.2 R decide b.3

pub union_there : (first second : List Row) → HasRows (EitherHolds first second)
union_there first second =
    listed (EitherHolds first second) (either_bounded (RowsHold first) (RowsHold second) (rows_bounded first) (rows_bounded second))
    (λ x y. either (decide_rows first x y) (decide_rows second x y))

pub composition_there : (first second : List Row) → HasRows (HasMiddlePoint first second)
composition_there first second =
    listed (HasMiddlePoint first second) (middle_bounded first second)
    (λ x y. as_well (of_way first second x y) (way_of first second x y) (some_decided (LeadsOn second) (decide_way second) first x y))

pub identity_there : (objects : List ObjNo) (horizon : Span) → HasRows (IsItself objects horizon)
identity_there objects horizon = listed (IsItself objects horizon) (itself_bounded objects horizon) (decide_itself objects horizon)

pub items_there : (items : List Item) → HasRows (ItemsHold items)
items_there items = listed (ItemsHold items) (some_bounded InItem item_bounded items) (some_decided InItem decide_item items)

pub restriction_there : (rows : List Row) (sources targets : List ObjNo) → HasRows (IsBetween rows sources targets)
restriction_there rows sources targets =
    listed (IsBetween rows sources targets) (narrower (RowsHold rows) (IsBetween rows sources targets) (λ x y h. h.held) (rows_bounded rows)) (decide_between rows sources targets)

pub difference_there : (first second : List Row) → HasRows (OnlyFirstHolds first second)
difference_there first second =
    listed (OnlyFirstHolds first second) (narrower (RowsHold first) (OnlyFirstHolds first second) (λ x y h. h.0) (rows_bounded first))
    (λ x y. both (decide_rows first x y) (fails (decide_rows second x y)))
