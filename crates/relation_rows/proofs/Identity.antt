-- Items that lead from each object to itself, and their rows.
use Rattle.std.proofs.Common.{◌≡◌, ◌↔◌, inl, inr, ⊎_elim, ℕ, ◌+◌, ◌<◌, ◌≤◌, ℤ, List, [], ◌∷◌, ◌++◌, length, map, slice_index_or, take, drop, Option, Some, refl, sym, ◌∙◌, ap, subst}
use Rattle.std.proofs.lemmas.List.{drop_more, drop_all}
use Rattle.itpg_base.specs.declared.object_number.ObjNo.{ObjNo}
use Rattle.itpg_base.specs.Spans.{Span}
use Rattle.itpg_base.specs.Points.{Point}
use Rattle.itpg_base.proofs.PointSearch.{point_ext}
use Rattle.zone_core.specs.declared.Bounds.{Bounds}
use Rattle.zone_core.specs.Zone.{Meets, Holds, IsZoneOf}
use Rattle.zone_compose.specs.Compose.{Stays}
use Rattle.band_normal.specs.declared.band.Band.{Band}
use Rattle.itpg_base.specs.Lists.{Among, Ordered}
use Rattle.band_normal.specs.Bands.{IsWellFormed}
use Rattle.band_normal.specs.Normal.{Normal}
use Rattle.band_normal.specs.Zones.{SomeMeets}
use Rattle.relation_rows.specs.declared.rows.Row.{Row}
use Rattle.relation_rows.specs.Rows.{KeyBefore, NormalRows, IsWide, rows_at}
use Rattle.relation_rows.specs.Relations.{Item, ItemsHold, Rise, IsItself}
use Rattle.relation_rows.specs.Gathering.{HaveOneKey, ItemUpTo}
use Rattle.relation_rows.proofs.Gathering.{HasGathered, start, step_gathered, step_wide, all_gathered}
use Rattle.relation_rows.proofs.Partitions.{rest_ordered, none_dropped}

module _ (zone : Bounds) where
  abbrev pub to_itself : ObjNo → Item
  to_itself o = (o, o, zone)

  mapped : (objects : List ObjNo) (o : ObjNo) → Among objects o → Among (map to_itself objects) (to_itself o)
  mapped [] o a = absurd a
  mapped (p ∷ ps) o (inl e) = inl (ap to_itself e)
  mapped (p ∷ ps) o (inr a) = inr (mapped ps o a)

  of_mapped : (objects : List ObjNo) (i : Item) → Among (map to_itself objects) i → (o : ObjNo) × Among objects o × (to_itself o ≡ i)
  of_mapped [] i a = absurd a
  of_mapped (p ∷ ps) i (inl e) = (p, inl refl, e)
  of_mapped (p ∷ ps) i (inr a) = let w = of_mapped ps i a in (w.0, inr w.1, w.2)

  pub items_rise : (objects : List ObjNo) → Rise objects → Ordered ItemUpTo (map to_itself objects)
  items_rise [] o = tt
  items_rise (p ∷ ps) o = (
    λ i a.
        let w = of_mapped ps i a in
        inl (inl (subst (λ (v : Item). p.0 < v.0.0) w.2 (o.0 w.0 w.1))),
    items_rise ps o.1,
  )

  module _ (objects : List ObjNo) (horizon : Span) (stays : (t u : ℤ) → Meets zone t u ↔ Stays horizon.from horizon.to t u) where
    pub are_itself : (x y : Point) → ItemsHold (map to_itself objects) x y → IsItself objects horizon x y
    are_itself x y h =
        let w = of_mapped objects h.0 h.1 in
        let i = h.2 in
        let source : (w.0).0 ≡ x.object = ap (λ (v : Item). v.0.0) w.2 ∙ i.source in
        let target : (w.0).0 ≡ y.object = ap (λ (v : Item). v.1.0) w.2 ∙ i.target in
        let m = (stays x.moment y.moment).0 (subst (λ (v : Item). Meets v.2 x.moment y.moment) (sym w.2) i.pair) in
        record {
          same = point_ext x y (sym source ∙ target) (sym m.same);
          object = (w.0, w.1, source);
          moment = record { begun = m.from; going = m.to };
        }

    pub itself_are : (x y : Point) → IsItself objects horizon x y → ItemsHold (map to_itself objects) x y
    itself_are x y h =
        let o = h.object in
        let within = h.moment in
        let e = h.same in (
          to_itself o.0,
          mapped objects o.0 o.1,
          record {
            source = o.2;
            target = o.2 ∙ ap (λ (v : Point). v.object) e;
            pair = (stays x.moment y.moment).1 (record { from = within.begun; to = within.going; same = sym (ap (λ (v : Point). v.moment) e) });
          },
        )

-- the zone that is there holds what it is the zone of
pub zone_there : (o : Option Bounds) (zone : Bounds) (from to : ℤ) (horizon : Span) → o ≡ Some zone → IsZoneOf (Stays from to) o → from ≡ horizon.from → to ≡ horizon.to
    → (t u : ℤ) → Meets zone t u ↔ Stays horizon.from horizon.to t u
zone_there o zone from to horizon e is f g t u =
    let h = subst (λ (v : Option Bounds). Holds v t u ↔ Stays from to t u) e (is.pairs t u) in
    let k = subst (λ (v : ℤ). Meets zone t u ↔ Stays v to t u) f h in
    subst (λ (v : ℤ). Meets zone t u ↔ Stays horizon.from v t u) g k

-- ---- rows from one object after the other

none_taken : (items : List Item) → take 0 items ≡ []
none_taken [] = refl
none_taken (i ∷ is) = refl

-- the rows of the objects that were read
abbrev pub HasEach : Bounds → List ObjNo → ℕ → List Row → Type 0
HasEach zone objects i rows = HasGathered (map (to_itself zone) objects) (map (to_itself zone) (drop i objects)) rows

pub none_yet : (zone : Bounds) (objects : List ObjNo) (rows : List Row) → Rise objects → rows ≡ [] → HasEach zone objects 0 rows
none_yet zone objects rows rise e =
    let P : List Row → Type 0 = λ v. HasEach zone objects 0 v in
    let Q : List ObjNo → Type 0 = λ v. HasGathered (map (to_itself zone) objects) (map (to_itself zone) v) [] in
    subst P (sym e) (subst Q (sym (none_dropped objects)) (start (map (to_itself zone) objects) (items_rise zone objects rise)))

module _ (zone : Bounds) (objects : List ObjNo) (rise : Rise objects) (i : ℕ) (d : ObjNo) (lt : i < length objects) (rows : List Row) (g : HasEach zone objects i rows)
    (zones : List Bounds) (is : zones ≡ zone ∷ []) (bands pushed : List Band) (read : pushed ≡ bands) (normal : Normal (SomeMeets zones) bands) (formed : (b : Band) → Among bands b → IsWellFormed b)
    (next : List Row) (more : next ≡ rows ++ rows_at (slice_index_or objects i d).0 (slice_index_or objects i d).0 pushed) where
  abbrev o : ObjNo
  o = slice_index_or objects i d

  abbrev rest : List Item
  rest = map (to_itself zone) (drop (i + 1) objects)

  is_left : map (to_itself zone) (drop i objects) ≡ to_itself zone o ∷ rest
  is_left = ap (λ (v : List ObjNo). map (to_itself zone) v) (drop_more objects i d lt)

  left : HasGathered (map (to_itself zone) objects) (to_itself zone o ∷ rest) rows
  left = subst (λ (v : List Item). HasGathered (map (to_itself zone) objects) v rows) is_left g

  front : to_itself zone o ∷ [] ≡ take 1 (to_itself zone o ∷ rest)
  front = ap (λ (v : List Item). to_itself zone o ∷ v) (sym (none_taken rest))

  back : rest ≡ drop 1 (to_itself zone o ∷ rest)
  back = sym (none_dropped rest)

  same : (j : Item) → Among (take 1 (to_itself zone o ∷ rest)) j → HaveOneKey (to_itself zone o) j
  same j a = ⊎_elim
      (λ (e : to_itself zone o ≡ j). (ap (λ (v : Item). v.0.0) e, ap (λ (v : Item). v.1.0) e))
      (λ b. absurd b)
      (subst (λ (v : List Item). Among v j) (sym front) a)

  behind : (j : Item) → Among (drop 1 (to_itself zone o ∷ rest)) j → KeyBefore o.0 o.0 j.0.0 j.1.0
  behind j a =
      let w = of_mapped zone (drop (i + 1) objects) j (subst (λ (v : List Item). Among v j) (sym back) a) in
      let order = subst (λ (v : List ObjNo). Rise v) (drop_more objects i d lt) (rest_ordered (λ (q r : ObjNo). q.0 < r.0) objects i rise) in
      inl (subst (λ (v : Item). o.0 < v.0.0) w.2 (order.0 w.0 w.1))

  own : Normal (SomeMeets (map (λ (j : Item). j.2) (to_itself zone o ∷ []))) bands
  own = subst (λ (v : List Bounds). Normal (SomeMeets v) bands) is normal

  pub each_more : HasEach zone objects (i + 1) next
  each_more = step_gathered (map (to_itself zone) objects) (to_itself zone o ∷ rest) rows left (to_itself zone o) refl 1 same behind (to_itself zone o ∷ []) rest front back bands pushed read own formed next more

  pub each_wide : (limit : ℕ) → limit < length next → IsWide (ItemsHold (map (to_itself zone) objects)) limit
  each_wide limit many = step_wide (map (to_itself zone) objects) (to_itself zone o ∷ rest) rows left (to_itself zone o) refl 1 same behind (to_itself zone o ∷ []) rest front back bands pushed read own formed next more limit many

pub all_each : (zone : Bounds) (objects : List ObjNo) (i : ℕ) (rows : List Row) → length objects ≤ i → HasEach zone objects i rows → NormalRows (ItemsHold (map (to_itself zone) objects)) rows
all_each zone objects i rows le g =
    let none : map (to_itself zone) (drop i objects) ≡ [] = ap (λ (v : List ObjNo). map (to_itself zone) v) (drop_all i objects le) in
    all_gathered (map (to_itself zone) objects) [] rows refl (subst (λ (v : List Item). HasGathered (map (to_itself zone) objects) v rows) none g)
