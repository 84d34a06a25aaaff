-- The ways of one source, departure by departure: what is kept of those that no later way can join, and how many rows they have.
use Rattle.std.proofs.Common.{◌≡◌, ◌↔◌, ◌⊎◌, inl, inr, ⊎_elim, ℕ, ◌+◌, ◌-◌, ◌<◌, ◌≤◌, ℤ, pos, ◌+ℤ◌, ◌≤ℤ◌, ◌<ℤ◌, List, [], ◌∷◌, ◌++◌, length, take, drop, get_or, Some, true, Err, append_assoc, append-nil, Ok, refl, sym, ◌∙◌, ap, subst, arith}
use Rattle.std.proofs.lemmas.Int.{ints}
use Rattle.std.proofs.lemmas.List.{take_more}
use Rattle.std.specs.List.Sorted.{IsSortedByKey}
use Rattle.std.specs.Ordering.{int_cmp, is_le, is_some_and}
use Rattle.std.specs.List.{AllAdjacentBelow}
use Rattle.itpg_base.specs.Lists.{Among, Ordered}
use Rattle.itpg_base.specs.Points.{Point, Relation}
use Rattle.itpg_base.proofs.Lists.{among_append, append_first, append_second, ordered_from_neighbours, ordered_second, ordered_from}
use Rattle.band_normal.specs.Bands.{IsWellFormed}
use Rattle.band_normal.proofs.Activity.{not_below}
use Rattle.relation_rows.specs.declared.rows.Row.{Row}
use Rattle.relation_rows.specs.declared.rows.RelFault.{RelFault}
use Rattle.relation_rows.specs.declared.rows.RelFault.TheVariants.{Memory, Wide}
use Rattle.relation_rows.specs.Rows.{RowsHold, NormalRows, IsWide}
use Rattle.relation_rows.specs.Answers.{Gives}
use Rattle.relation_rows.specs.Relations.{Item, ItemsHold, HasMiddlePoint}
use Rattle.relation_rows.specs.Ways.{DepartsNoLater, DepartApart}
use Rattle.relation_rows.proofs.Alike.{rows_alike, hold_only, rows_hold}
use Rattle.relation_rows.proofs.Listed.{rows_unique}
use Rattle.relation_rows.proofs.Partitions.{front_among}
use Rattle.relation_rows.proofs.Splitting.{Either, DepartFar, split_normal}

pub sorted_departures : (rows : List Row) → IsSortedByKey (λ (r : Row). r.band.from) int_cmp rows → Ordered DepartsNoLater rows
sorted_departures rows h = ordered_from_neighbours DepartsNoLater (λ x y z a b. omega (arith, ints)) rows (λ k d l. not_below _ _ (h k d (omega arith) l))

-- rows that a look at neighbours finds in that order
pub found_departures : (rows : List Row) → AllAdjacentBelow (λ (r s : Row). true ≡ is_some_and is_le (Some (int_cmp r.band.from s.band.from))) rows (length rows) → Ordered DepartsNoLater rows
found_departures rows h = ordered_from_neighbours DepartsNoLater (λ x y z a b. omega (arith, ints)) rows (λ k d l. not_above _ _ (h k d l))
  where
    not_above : (a b : ℤ) → true ≡ is_some_and is_le (Some (int_cmp a b)) → a ≤ℤ b
    not_above a b e = grind (arith, ints)

-- the last departure with one more row
pub last_more : (rows : List Row) (i : ℕ) (d : Row) (old new : ℤ) → i < length rows → ((s : Row) → Among (take i rows) s → s.band.to ≤ℤ old) → old ≤ℤ new → (get_or rows i d).band.to ≤ℤ new
    → (s : Row) → Among (take (i + 1) rows) s → s.band.to ≤ℤ new
last_more rows i d old new lt all le here s h = ⊎_elim
    (λ j. let a = all s j in omega (arith, ints))
    (λ j. ⊎_elim (λ (e : get_or rows i d ≡ s). subst (λ (v : Row). v.band.to ≤ℤ new) e here) (λ f. absurd f) j)
    (among_append (take i rows) (get_or rows i d ∷ []) s (subst (λ (v : List Row). Among v s) (take_more rows i d lt) h))

-- a row that departs apart from all before it, and so do the rows after it
pub stretch_apart : (rows : List Row) (i : ℕ) (d : Row) (last : ℤ) → Ordered DepartsNoLater rows → i < length rows → ((s : Row) → Among (take i rows) s → s.band.to ≤ℤ last)
    → (last +ℤ pos 1) <ℤ (get_or rows i d).band.from → (s t : Row) → Among (take i rows) s → Among (drop i rows) t → DepartApart s t
stretch_apart rows i d last o lt all above s t h k =
    let a = all s h in
    ⊎_elim
    (λ (e : get_or rows i d ≡ t). subst (λ (v : Row). (s.band.to +ℤ pos 1) <ℤ v.band.from) e (omega (arith, ints)))
    (λ le. omega (arith, ints))
    (ordered_from DepartsNoLater rows i d o lt t k)

-- ---- ways that begin with the rows of two lists

pub hold_either : (a b : List Row) (x y : Point) → RowsHold (a ++ b) x y ↔ (RowsHold a x y ⊎ RowsHold b x y)
hold_either a b x y = (
  λ h. ⊎_elim (λ i. inl (h.0, i, h.2)) (λ i. inr (h.0, i, h.2)) (among_append a b h.0 h.1),
  λ h. ⊎_elim (λ i. (i.0, append_first a b i.0 i.1, i.2)) (λ i. (i.0, append_second a b i.0 i.1, i.2)) h,
)

module _ (second : List Row) where
  abbrev From : List Row → Relation
  From rows = HasMiddlePoint rows second

  abbrev Apart : List Row → List Row → Type 0
  Apart a b = (r s : Row) → Among a r → Among b s → DepartApart r s

  from_either : (a b : List Row) (x y : Point) → From (a ++ b) x y ↔ Either (From a) (From b) x y
  from_either a b x y = (
    λ h. ⊎_elim (λ i. inl (h.0, i, h.2)) (λ i. inr (h.0, i, h.2)) ((hold_either a b x h.0).0 h.1),
    λ h. ⊎_elim (λ i. (i.0, (hold_either a b x i.0).1 (inl i.1), i.2)) (λ i. (i.0, (hold_either a b x i.0).1 (inr i.1), i.2)) h,
  )

  far : (a b : List Row) → Apart a b → DepartFar (From a) (From b)
  far a b apart x y z w h k near near' =
      let f = h.1 in
      let g = k.1 in
      let gap = apart f.0 g.0 f.1 g.1 in
      let ends = f.2.pair.to in
      let begins = g.2.pair.from in
      omega (arith, ints, gap, ends, begins, near)

  -- a normal list of ways that begin with either is one of each
  parts_of : (a b : List Row) → Apart a b → (n : List Row) → NormalRows (From (a ++ b)) n → (first : List Row) × (second : List Row) × NormalRows (From a) first × NormalRows (From b) second × (length n ≡ length first + length second)
  parts_of a b apart n normal =
      split_normal (From a) (From b) (far a b apart) n
      (rows_alike (From (a ++ b)) (Either (From a) (From b)) (λ x y h. (from_either a b x y).0 h) (λ x y h. (from_either a b x y).1 h) n normal)

  -- of the rows, some are counted and only their rows' zones kept, the ways of others are listed, and some are left
  pub record IsUnderway (sorted left : List Row) (kept ways : List Item) (count room : ℕ) : Type 0 where
    pub counted : List Row
    pub listed : List Row
    pub parts : sorted ≡ (counted ++ listed) ++ left
    pub order : Ordered DepartsNoLater left
    pub apart : Apart counted listed
    pub behind : Apart (counted ++ listed) left
    pub kept_hold : (x y : Point) → ItemsHold kept x y ↔ From counted x y
    pub ways_hold : (x y : Point) → ItemsHold ways x y ↔ From listed x y
    pub rows : (n : List Row) → NormalRows (From counted) n → length n ≡ count
    pub few : count ≤ room

  none_from : (items : List Item) → items ≡ [] → (x y : Point) → ItemsHold items x y ↔ From [] x y
  none_from items e x y = (λ h. absurd (subst (λ (v : List Item). ItemsHold v x y) e h).1, λ h. absurd h.1.1)

  pub start : (sorted : List Row) (kept ways : List Item) (room : ℕ) → kept ≡ [] → ways ≡ [] → Ordered DepartsNoLater sorted → IsUnderway sorted sorted kept ways 0 room
  start sorted kept ways room e f o = record {
    counted = [];
    listed = [];
    parts = refl;
    order = o;
    apart = λ r s a. absurd a;
    behind = λ r s a. absurd a;
    kept_hold = none_from kept e;
    ways_hold = none_from ways f;
    rows = λ n normal. ap length (rows_unique (From []) n [] normal (record { whole = λ x y h. absurd h.1.1; once = λ r s x y a. absurd a; each = λ r a. absurd a; order = tt }));
    few = omega arith;
  }

  -- the ways of all rows, listed behind none
  module _ (rows : List Row) (none items : List Item) (e : none ≡ []) (more : (x y : Point) → ItemsHold items x y ↔ (ItemsHold none x y ⊎ From rows x y)) where
    pub all_ways : (x y : Point) → ItemsHold items x y → From rows x y
    all_ways x y h = ⊎_elim (λ a. absurd (subst (λ (v : List Item). ItemsHold v x y) e a).1) (λ a. a) ((more x y).0 h)

    pub ways_all : (x y : Point) → From rows x y → ItemsHold items x y
    ways_all x y h = (more x y).1 (inr h)

  pub part_formed : (sorted left : List Row) (kept ways : List Item) (count room : ℕ) → IsUnderway sorted left kept ways count room → (part : List Row) (k : ℕ) → part ≡ take k left → (rows : List Row) → ((r : Row) → Among sorted r ↔ Among rows r)
      → ((r : Row) → Among rows r → IsWellFormed r.band) → (r : Row) → Among part r → IsWellFormed r.band
  part_formed sorted left kept ways count room g part k front rows same formed r a =
      formed r ((same r).0 (subst (λ (v : List Row). Among v r) (sym g.parts) (append_second (g.counted ++ g.listed) left r (front_among left k r (subst (λ (v : List Row). Among v r) front a)))))

  module _ (sorted left : List Row) (kept ways : List Item) (count room : ℕ) (g : IsUnderway sorted left kept ways count room) (part later : List Row) (k : ℕ) (whole : left ≡ part ++ later) (front : part ≡ take k left) (back : later ≡ drop k left)
      (gap : Apart (take k left) (drop k left)) (next : List Item) (more : (x y : Point) → ItemsHold next x y ↔ (ItemsHold ways x y ⊎ From part x y)) where
    part_left : (r : Row) → Among part r → Among left r
    part_left r a = subst (λ (v : List Row). Among v r) (sym whole) (append_first part later r a)

    later_left : (r : Row) → Among later r → Among left r
    later_left r a = subst (λ (v : List Row). Among v r) (sym whole) (append_second part later r a)

    all : List Row
    all = g.listed ++ part

    all_apart : Apart g.counted all
    unfolding all
    all_apart r s a b = ⊎_elim (λ c. g.apart r s a c) (λ c. g.behind r s (append_first g.counted g.listed r a) (part_left s c)) (among_append g.listed part s b)

    later_apart : Apart (g.counted ++ all) later
    unfolding all
    later_apart r s a b = ⊎_elim
        (λ c. g.behind r s (append_first g.counted g.listed r c) (later_left s b))
        (λ c. ⊎_elim
        (λ d. g.behind r s (append_second g.counted g.listed r d) (later_left s b))
        (λ d. gap r s (subst (λ (v : List Row). Among v r) front d) (subst (λ (v : List Row). Among v s) back b))
        (among_append g.listed part r c))
        (among_append g.counted all r a)

    parts_now : sorted ≡ (g.counted ++ all) ++ later
    unfolding all
    parts_now = g.parts ∙ subst (λ (v : List Row). (g.counted ++ g.listed) ++ left ≡ (g.counted ++ g.listed) ++ v) whole refl
        ∙ sym (append_assoc (g.counted ++ g.listed) part later) ∙ ap (λ (v : List Row). v ++ later) (append_assoc g.counted g.listed part)

    next_hold : (x y : Point) → ItemsHold next x y ↔ From all x y
    unfolding all
    next_hold x y = (
      λ h. (from_either g.listed part x y).1 (⊎_elim (λ a. inl ((g.ways_hold x y).0 a)) (λ a. inr a) ((more x y).0 h)),
      λ h. (more x y).1 (⊎_elim (λ a. inl ((g.ways_hold x y).1 a)) (λ a. inr a) ((from_either g.listed part x y).0 h)),
    )

    order_now : Ordered DepartsNoLater later
    order_now = ordered_second DepartsNoLater part later (subst (λ (v : List Row). Ordered DepartsNoLater v) whole g.order)

    -- the part's ways are listed
    pub step : IsUnderway sorted later kept next count room
    step = record { counted = g.counted; listed = all; parts = parts_now; order = order_now; apart = all_apart; behind = later_apart; kept_hold = g.kept_hold; ways_hold = next_hold; rows = g.rows; few = g.few }

    next_alike : (n : List Row) → NormalRows (From all) n → NormalRows (ItemsHold next) n
    next_alike n normal = rows_alike (From all) (ItemsHold next) (λ x y h. (next_hold x y).1 h) (λ x y h. (next_hold x y).0 h) n normal

    -- all that are listed are counted
    pub count_all : (rows : List Row) → Gives (Ok rows) (ItemsHold next) (room - count) → (kept' none : List Item) → ((x y : Point) → ItemsHold kept' x y ↔ (ItemsHold kept x y ⊎ RowsHold rows x y)) → none ≡ []
        → IsUnderway sorted later kept' none (count + length rows) room
    count_all rows given kept' none more_kept e = record {
      counted = g.counted ++ all;
      listed = [];
      parts = parts_now ∙ ap (λ (v : List Row). v ++ later) (sym (append-nil (g.counted ++ all)));
      order = order_now;
      apart = λ r s a b. absurd b;
      behind = λ r s a b. later_apart r s (subst (λ (v : List Row). Among v r) (append-nil (g.counted ++ all)) a) b;
      kept_hold = λ x y. (
        λ h. (from_either g.counted all x y).1 (⊎_elim (λ a. inl ((g.kept_hold x y).0 a)) (λ a. inr ((next_hold x y).0 (hold_only (ItemsHold next) rows given.0 x y a))) ((more_kept x y).0 h)),
        λ h. (more_kept x y).1 (⊎_elim (λ a. inl ((g.kept_hold x y).1 a)) (λ a. inr (rows_hold (ItemsHold next) rows given.0 x y ((next_hold x y).1 a))) ((from_either g.counted all x y).0 h)),
      );
      ways_hold = none_from none e;
      rows = λ n normal.
          let p = parts_of g.counted all all_apart n normal in
          let before = g.rows p.0 p.2 in
          let same = ap length (rows_unique (ItemsHold next) p.1 rows (next_alike p.1 p.3) given.0) in
          let sum = p.4 in
          omega (arith, before, same, sum);
      few = let few = g.few in let room_left = given.1 in omega (arith, few, room_left);
    }

    -- where those that are listed have too many rows beside the ones counted, all are too many
    pub too_many : (rows : List Row) → ((r : Row) → Among sorted r ↔ Among rows r) → IsWide (ItemsHold next) (room - count) → IsWide (From rows) room
    too_many rows same wide n normal =
        let all_of = rows_alike (From rows) (From ((g.counted ++ all) ++ later))
        (λ x y h. subst (λ (v : List Row). From v x y) parts_now (let i = h.1 in (h.0, (i.0, (same i.0).1 i.1, i.2), h.2)))
        (λ x y h. let k = subst (λ (v : List Row). From v x y) (sym parts_now) h in let i = k.1 in (k.0, (i.0, (same i.0).0 i.1, i.2), k.2))
        n normal in
        let p = parts_of (g.counted ++ all) later later_apart n all_of in
        let q = parts_of g.counted all all_apart p.0 p.2 in
        let before = g.rows q.0 q.2 in
        let many = wide q.1 (next_alike q.1 q.3) in
        let sum = p.4 in
        let sum' = q.4 in
        let few = g.few in
        omega (arith, before, many, sum, sum', few)

    pub fault_now : (rows : List Row) → ((r : Row) → Among sorted r ↔ Among rows r) → (fault : RelFault) → Gives (Err fault) (ItemsHold next) (room - count) → Gives (Err fault) (From rows) room
    fault_now rows same Memory h = tt
    fault_now rows same Wide h = too_many rows same h

  -- at the end all that is kept and all that is listed are the ways
  module _ (sorted : List Row) (kept ways : List Item) (count room : ℕ) (g : IsUnderway sorted [] kept ways count room) (rows : List Row) (same : (r : Row) → Among sorted r ↔ Among rows r) where
    whole_is : sorted ≡ g.counted ++ g.listed
    whole_is = g.parts ∙ append-nil (g.counted ++ g.listed)

    items_either : (x y : Point) → ItemsHold (ways ++ kept) x y ↔ (ItemsHold kept x y ⊎ ItemsHold ways x y)
    items_either x y = (
      λ h. ⊎_elim (λ i. inr (h.0, i, h.2)) (λ i. inl (h.0, i, h.2)) (among_append ways kept h.0 h.1),
      λ h. ⊎_elim (λ i. (i.0, append_second ways kept i.0 i.1, i.2)) (λ i. (i.0, append_first ways kept i.0 i.1, i.2)) h,
    )

    pub items_from : (x y : Point) → ItemsHold (ways ++ kept) x y → From rows x y
    items_from x y h =
        let k = subst (λ (v : List Row). From v x y) (sym whole_is) ((from_either g.counted g.listed x y).1 (⊎_elim (λ a. inl ((g.kept_hold x y).0 a)) (λ a. inr ((g.ways_hold x y).0 a)) ((items_either x y).0 h))) in
        let i = k.1 in
        (k.0, (i.0, (same i.0).0 i.1, i.2), k.2)

    pub from_items : (x y : Point) → From rows x y → ItemsHold (ways ++ kept) x y
    from_items x y h =
        let i = h.1 in
        let k : From (g.counted ++ g.listed) x y = subst (λ (v : List Row). From v x y) whole_is (h.0, (i.0, (same i.0).1 i.1, i.2), h.2) in
        (items_either x y).1 (⊎_elim (λ a. inl ((g.kept_hold x y).1 a)) (λ a. inr ((g.ways_hold x y).1 a)) ((from_either g.counted g.listed x y).0 k))
