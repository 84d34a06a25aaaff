-- Rows of a part, one of which has the pairs of all, and rows of zones.
use Rattle.std.proofs.Common.{◌≡◌, ◌↔◌, ◌⊎◌, inl, inr, ⊎_elim, ℕ, ◌+◌, ◌<◌, ◌≤◌, ℤ, List, [], ◌∷◌, ◌++◌, length, map, slice_index_or, take, true, refl, sym, ◌∙◌, ap, subst, arith}
use Rattle.std.proofs.lemmas.List.{take_all, take_more, get_or_default}
use Rattle.itpg_base.specs.Points.{Point, Relation}
use Rattle.itpg_base.specs.Lists.{Among}
use Rattle.itpg_base.proofs.Lists.{among_append, append_first, append_second, among_at}
use Rattle.zone_core.specs.declared.Bounds.{Bounds}
use Rattle.zone_core.specs.Zone.{Meets}
use Rattle.band_normal.specs.declared.band.Band.{Band}
use Rattle.band_normal.specs.Bands.{InBand, IsWellFormed}
use Rattle.band_normal.specs.Normal.{Normal}
use Rattle.band_normal.specs.Zones.{SomeMeets}
use Rattle.band_normal.proofs.Sorting.{normal_like}
use Rattle.relation_rows.specs.declared.rows.Row.{Row}
use Rattle.relation_rows.specs.Rows.{between, HasKey, InRow, NormalRows, RowsHold, rows_at}
use Rattle.relation_rows.specs.Relations.{InItem, Item, ItemsHold}
use Rattle.relation_rows.specs.Searching.{has_key}
use Rattle.relation_rows.specs.Apart.{AreLone, IsLone}
use Rattle.relation_rows.specs.Direct.{AddsWays, AreItsRows}
use Rattle.relation_rows.proofs.Alike.{rows_alike}
use Rattle.relation_rows.proofs.Pushing.{items_more, no_item}
use Rattle.relation_rows.proofs.DirectWays.{then_added}
use Rattle.relation_rows.proofs.Gathering.{meets_some, some_meets}
use Rattle.relation_rows.proofs.ItemZones.{zone_of_item}
use Rattle.relation_rows.proofs.Keys.{key_is}
use Rattle.relation_rows.proofs.Listed.{among_rows_at, at_among, normal_of, one_key}
use Rattle.relation_rows.proofs.Partitions.{among_more}
use Rattle.relation_rows.proofs.Settling.{apart_settled}

-- ---- a row that has the pairs of all

-- a row of the same source and target whose zone lies within the other's
pub within_row : (inner outer : Row) (small large : Bounds) → has_key inner outer.source.0 outer.target.0 ≡ true → ((t u : ℤ) → Meets small t u ↔ InBand inner.band t u) → ((t u : ℤ) → Meets large t u ↔ InBand outer.band t u)
    → ((t u : ℤ) → Meets small t u → Meets large t u) → (x : Point) → (y : Point) → InRow inner x y → InRow outer x y
within_row inner outer small large same small_is large_is inside x y i =
    let k = key_is inner outer.source.0 outer.target.0 same in
    record {
      source = sym k.0 ∙ i.source;
      target = sym k.1 ∙ i.target;
      pair = (large_is x.moment y.moment).0 (inside x.moment y.moment ((small_is x.moment y.moment).1 i.pair));
    }

-- the row has each pair of the rows
abbrev pub HasPairs : List Row → Row → Type 0
HasPairs rows outer = (r : Row) → Among rows r → (x : Point) → (y : Point) → InRow r x y → InRow outer x y

-- the row is one of the part, and has each pair of the rows up to a place
abbrev pub HasFirst : List Row → ℕ → Row → Type 0
HasFirst part k outer = Among part outer × HasPairs (take k part) outer

pub none_had : (part : List Row) (outer : Row) → Among part outer → HasFirst part 0 outer
none_had part outer a = (a, λ r b x y h. absurd b)

module _ (part : List Row) (k : ℕ) (d : Row) (lt : k < length part) (outer : Row) (so : HasFirst part k outer) where
  abbrev row : Row
  row = slice_index_or part k d

  up_to : (r : Row) → Among (take (k + 1) part) r → Among (take k part) r ⊎ (row ≡ r)
  up_to r a = among_more part k row r lt (get_or_default part k d row lt) a

  -- the row at the place lies within
  pub one_more_had : ((x : Point) → (y : Point) → InRow row x y → InRow outer x y) → HasFirst part (k + 1) outer
  one_more_had inside = (
    so.0,
    λ r a x y h. ⊎_elim
        (λ b. so.1 r b x y h)
        (λ (e : row ≡ r). inside x y (subst (λ (v : Row). InRow v x y) (sym e) h))
        (up_to r a),
  )

  -- the row at the place has what the last one had
  pub outer_had : ((x : Point) → (y : Point) → InRow outer x y → InRow row x y) → HasFirst part (k + 1) row
  outer_had inside = (
    among_at part k d lt,
    λ r a x y h. ⊎_elim
        (λ b. inside x y (so.1 r b x y h))
        (λ (e : row ≡ r). subst (λ (v : Row). InRow v x y) (sym e) h)
        (up_to r a),
  )

pub all_had : (part : List Row) (k : ℕ) (outer : Row) → length part ≤ k → HasFirst part k outer → (x : Point) → (y : Point) → RowsHold part x y → InRow outer x y
all_had part k outer le so x y h = so.1 h.0 (subst (λ (v : List Row). Among v h.0) (sym (take_all k part le)) h.1) x y h.2

-- ---- the rows of a part that one row stands for

one_row : (row : Row) → AreLone (row ∷ []) → AreItsRows (RowsHold (row ∷ [])) (row ∷ [])
one_row row lone = apart_settled (row ∷ []) lone (λ s a. absurd a, tt)

pub covered_settled : (part : List Row) (row : Row) → AreLone part → Among part row → ((x : Point) → (y : Point) → RowsHold part x y → InRow row x y) → AreItsRows (RowsHold part) (row ∷ [])
covered_settled part row lone there all =
    let alone = one_row row (λ r a. ⊎_elim (λ (e : row ≡ r). subst (λ (v : Row). IsLone v.band) e (lone row there)) (λ f. absurd f) a) in
    record {
      normal = rows_alike (RowsHold (row ∷ [])) (RowsHold part)
          (λ x y h. (row, there, ⊎_elim (λ (e : row ≡ h.0). subst (λ (v : Row). InRow v x y) (sym e) h.2) (λ f. absurd f) h.1))
          (λ x y h. (row, inl refl, all x y h))
          (row ∷ []) alone.normal;
      formed = alone.formed;
    }

pub lone_settled : (part : List Row) (d : Row) → AreLone part → 1 ≤ length part → length part < 2 → AreItsRows (RowsHold part) (slice_index_or part 0 d ∷ [])
lone_settled [] d lone some few = absurd (omega arith)
lone_settled (r ∷ []) d lone some few = one_row r lone
lone_settled (r ∷ s ∷ more) d lone some few = absurd (omega arith)

-- ---- the rows of a part, made normal

module _ (part : List Row) (key : Row) (keyed : (r : Row) → Among part r → HasKey r key.source.0 key.target.0) (none items : List Item) (empty : none ≡ [])
    (zones : (x y : Point) → ItemsHold items x y ↔ (ItemsHold none x y ⊎ RowsHold part x y)) where
  abbrev o : ℕ
  o = key.source.0

  abbrev p : ℕ
  p = key.target.0

  of_part : (x y : Point) → ItemsHold items x y → RowsHold part x y
  of_part x y h = ⊎_elim (λ a. absurd (subst (λ (v : List Item). ItemsHold v x y) empty a).1) (λ a. a) ((zones x y).0 h)

  part_pairs : (t u : ℤ) → SomeMeets (map zone_of_item items) t u ↔ between (RowsHold part) o p t u
  part_pairs t u = (
    λ h.
        let w = meets_some items t u h in
        let i = w.0 in
        let r = of_part (record { object = i.0.0; moment = t }) (record { object = i.1.0; moment = u }) (i, w.1, record { source = refl; target = refl; pair = w.2 }) in
        let k = keyed r.0 r.1 in
        let m = r.2 in
        (r.0, r.1, record { source = k.0; target = k.1; pair = m.pair }),
    λ h.
        let w = (zones (record { object = o; moment = t }) (record { object = p; moment = u })).1 (inr h) in
        let m = w.2 in
        some_meets items w.0 t u w.1 m.pair,
  )

  pub bands_settled : (read : List Item) (bands known : List Band) → read ≡ items → Normal (SomeMeets (map zone_of_item read)) bands → ((b : Band) → Among bands b → IsWellFormed b) → known ≡ bands
      → AreItsRows (RowsHold part) (rows_at o p known)
  bands_settled read bands known e normal formed f =
      let found = subst (λ (v : List Item). Normal (SomeMeets (map zone_of_item v)) bands) e normal in
      let K : ℕ → ℕ → Type 0 = λ q r. (q ≡ o) × (r ≡ p) in
      subst (λ (v : List Band). AreItsRows (RowsHold part) (rows_at o p v)) (sym f) (record {
        normal = normal_of (RowsHold part) K (rows_at o p bands) (one_key (RowsHold part) o p bands (normal_like (SomeMeets (map zone_of_item items)) (between (RowsHold part) o p) bands part_pairs found))
            (λ x y h. let k = keyed h.0 h.1 in let m = h.2 in (sym m.source ∙ k.0, sym m.target ∙ k.1));
        formed = λ r a. formed r.band (at_among (RowsHold part) o p bands r a).2;
      })

-- ---- rows of zones

-- what is put into an empty list is all there is
pub alone_is : (old more rows : List Band) → old ≡ [] → rows ≡ old ++ more → more ≡ rows
alone_is old more rows e f = sym (subst (λ (v : List Band). rows ≡ v ++ more) e f)

-- the bands of the item's zone are added as rows
pub zone_added : (item : Item) (old next : List Row) (bands : List Band) → Normal (Meets item.2) bands → ((b : Band) → Among bands b → IsWellFormed b) → next ≡ old ++ rows_at item.0.0 item.1.0 bands
    → AddsWays (InItem item) true old next
zone_added item old next bands normal formed e =
    let added = rows_at item.0.0 item.1.0 bands in
    subst (AddsWays (InItem item) true old) (sym e) (record {
      lone = λ l r a. ⊎_elim
          (λ b. l r b)
          (λ b. let k = at_among (InItem item) item.0.0 item.1.0 bands r b in let row = normal.each r.band k.2 in record { formed = formed r.band k.2; single_low = row.single_low; single_high = row.single_high })
          (among_append old added r a);
      holds = λ t x y. (
        λ h. ⊎_elim
            (λ a. inl (h.0, a, h.2))
            (λ a.
            let k = at_among (InItem item) item.0.0 item.1.0 bands h.0 a in
            let i = h.2 in
            let p = i.pair in
            let row = normal.each (h.0).band k.2 in
            inr (record { source = sym k.0 ∙ i.source; target = sym k.1 ∙ i.target; pair = (row.runs x.moment p.from p.to).each y.moment p.low p.high }))
            (among_append old added h.0 h.1),
        λ h. ⊎_elim
            (λ a. (a.0, append_first old added a.0 a.1, a.2))
            (λ a.
            let w = normal.whole x.moment y.moment a.pair in
            let r : Row = record { source = record { 0 = item.0.0 }; target = record { 0 = item.1.0 }; band = w.0 } in
            (r, append_second old added r (among_rows_at (InItem item) item.0.0 item.1.0 bands w.0 w.1), record { source = a.source; target = a.target; pair = w.2 }))
            h,
      );
    })

-- what the items up to a place hold, and the rows
abbrev pub FirstOrRows : List Item → List Row → Relation
FirstOrRows items rows x y = ItemsHold items x y ⊎ RowsHold rows x y

pub rows_alone : (items : List Item) (rows old both : List Row) → AreLone rows → old ≡ [] → both ≡ old ++ rows → AddsWays (FirstOrRows (take 0 items) rows) true [] both
rows_alone items rows old both lone none e =
    let same : rows ≡ both = sym (subst (λ (v : List Row). both ≡ v ++ rows) none e) in
    subst (AddsWays (FirstOrRows (take 0 items) rows) true []) same (record {
      lone = λ l. lone;
      holds = λ t x y. (λ h. inr (inr h), λ h. ⊎_elim (λ a. absurd a.1) (λ a. ⊎_elim (λ b. absurd (no_item items x y b)) (λ b. b) a) h);
    })

pub one_more_item : (items : List Item) (rows : List Row) (k : ℕ) (d : Item) → k < length items → (item : Item) → item ≡ slice_index_or items k d → (now next : List Row)
    → AddsWays (FirstOrRows (take k items) rows) true [] now → AddsWays (InItem item) true now next → AddsWays (FirstOrRows (take (k + 1) items) rows) true [] next
one_more_item items rows k d lt item read now next so pushed =
    then_added (FirstOrRows (take k items) rows) (InItem item) (FirstOrRows (take (k + 1) items) rows) [] now next
    (λ x y.
    let more = items_more (take k items) (take (k + 1) items) item (take_more items k d lt ∙ ap (λ (v : Item). take k items ++ v ∷ []) (sym read)) x y in (
      λ h. ⊎_elim (λ a. ⊎_elim (λ b. inl (inl b)) (λ b. inr b) (more.0 a)) (λ a. inl (inr a)) h,
      λ h. ⊎_elim (λ a. ⊎_elim (λ b. inl (more.1 (inl b))) (λ b. inr b) a) (λ a. inl (more.1 (inr a))) h,
    ))
    so pushed

pub all_items : (items : List Item) (rows both : List Row) (k : ℕ) → length items ≤ k → AddsWays (FirstOrRows (take k items) rows) true [] both → AddsWays (FirstOrRows items rows) true [] both
all_items items rows both k le = subst (λ (v : List Item). AddsWays (FirstOrRows v rows) true [] both) (take_all k items le)

-- ---- the relation of both

pub sorted_settled : (rows sorted read made : List Row) → ((r : Row) → Among sorted r ↔ Among rows r) → read ≡ sorted → AreItsRows (RowsHold read) made → AreItsRows (RowsHold rows) made
sorted_settled rows sorted read made same e is = record {
  normal = rows_alike (RowsHold read) (RowsHold rows)
      (λ x y h. (h.0, (same h.0).0 (subst (λ (v : List Row). Among v h.0) e h.1), h.2))
      (λ x y h. (h.0, subst (λ (v : List Row). Among v h.0) (sym e) ((same h.0).1 h.1), h.2))
      made is.normal;
  formed = is.formed;
}

pub sorted_alone : (rows sorted read : List Row) → ((r : Row) → Among sorted r ↔ Among rows r) → read ≡ sorted → AreLone rows → AreLone read
sorted_alone rows sorted read same e lone r a = lone r ((same r).0 (subst (λ (v : List Row). Among v r) e a))

pub both_normal : (R : Relation) (both made : List Row) → AddsWays R true [] both → NormalRows (RowsHold both) made → NormalRows R made
both_normal R both made added normal = rows_alike (RowsHold both) R
    (λ x y h. ⊎_elim (λ a. absurd a.1) (λ a. a) ((added.holds refl x y).0 h))
    (λ x y h. (added.holds refl x y).1 (inr h))
    made normal

pub items_alone : (items : List Item) (made : List Row) → NormalRows (λ x y. ItemsHold items x y ⊎ RowsHold [] x y) made → NormalRows (ItemsHold items) made
items_alone items made = rows_alike (λ x y. ItemsHold items x y ⊎ RowsHold [] x y) (ItemsHold items) (λ x y h. ⊎_elim (λ a. a) (λ a. absurd a.1) h) (λ x y h. inl h) made
