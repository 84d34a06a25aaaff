-- What is left of rows without cuts, one row after the other.
use Rattle.std.proofs.Common.{◌≡◌, ◌↔◌, ◌⊎◌, inl, inr, ⊎_elim, ℕ, suc, ◌+◌, ◌<◌, ◌≤◌, ℤ, ◌<ℤ◌, List, [], ◌∷◌, ◌++◌, length, slice_index_or, take, drop, refl, sym, subst, arith}
use Rattle.std.proofs.Common.{Some, Bool, true, false, true≢false}
use Rattle.std.specs.Prelude.{IsTrue}
use Rattle.std.specs.List.{IsAllAdjacentAnswer}
use Rattle.std.specs.Ordering.{int_cmp, is_le, is_some_and}
use Rattle.std.proofs.lemmas.Int.{ints}
use Rattle.std.proofs.lemmas.List.{take_all, get_or_default}
use Rattle.std.proofs.Math.Seq.{drop-cons}
use Rattle.zone_core.specs.declared.Bounds.{Bounds}
use Rattle.zone_core.specs.Zone.{Meets, MeetsFirstOnly}
use Rattle.itpg_base.specs.Lists.{Among, Ordered}
use Rattle.band_normal.specs.Bands.{InBand, IsWellFormed}
use Rattle.band_normal.specs.Zones.{SomeMeets}
use Rattle.itpg_base.proofs.Lists.{ordered_from}
use Rattle.relation_rows.specs.declared.rows.Row.{Row}
use Rattle.relation_rows.specs.Uniting.{SomeHasBand}
use Rattle.relation_rows.specs.Minus.{OnlyFirstMeets, OnlyFirstHasBand}
use Rattle.relation_rows.specs.Ways.{DepartsNoLater}
use Rattle.relation_rows.proofs.Counting.{found_departures}
use Rattle.relation_rows.proofs.Partitions.{among_either, front_among, rest_among, rest_ordered, among_more, more_among}
use Rattle.relation_rows.proofs.Leaving.{meets_more, AreOfBands, AreLeft, left_added, no_bands}

-- ---- rows by first departure

-- rows that a look at neighbours finds in that order, or not
pub found_so : (rows : List Row) (found : Bool) → IsAllAdjacentAnswer (λ (x y : Row) (b : Bool). b ≡ is_some_and is_le (Some (int_cmp x.band.from y.band.from))) rows found
    → IsTrue found → Ordered DepartsNoLater rows
found_so rows true h e = found_departures rows h
found_so rows false h e = absurd (true≢false (sym e))

-- ---- rows from a place on

here_among : (rows : List Row) (i : ℕ) (d : Row) → i < length rows → Among (drop i rows) (slice_index_or rows i d)
here_among rows i d lt = subst (λ (v : List Row). Among v (slice_index_or rows i d)) (sym (drop-cons rows i d lt)) (inl refl)

further_among : (rows : List Row) (i : ℕ) (d : Row) → i < length rows → (r : Row) → Among (drop (i + 1) rows) r → Among (drop i rows) r
further_among rows i d lt r a =
    let e : i + 1 ≡ suc i = omega arith in
    subst (λ (v : List Row). Among v r) (sym (drop-cons rows i d lt)) (inr (subst (λ (n : ℕ). Among (drop n rows) r) e a))

-- ---- how many cuts end before a moment, and how many depart by one

pub ended_more : (cuts : List Row) (i : ℕ) (d : Row) (moment : ℤ) → i < length cuts → ((c : Row) → Among (take i cuts) c → c.band.to <ℤ moment) → (slice_index_or cuts i d).band.to <ℤ moment
    → (c : Row) → Among (take (i + 1) cuts) c → c.band.to <ℤ moment
ended_more cuts i d moment lt all here c a = ⊎_elim
    (λ b. all c b)
    (λ (e : slice_index_or cuts i d ≡ c). subst (λ (v : Row). v.band.to <ℤ moment) e here)
    (among_more cuts i (slice_index_or cuts i d) c lt (get_or_default cuts i d (slice_index_or cuts i d) lt) a)

pub later_begins : (cuts : List Row) (i : ℕ) (d : Row) (moment : ℤ) → Ordered DepartsNoLater cuts → i < length cuts → moment <ℤ (slice_index_or cuts i d).band.from
    → (c : Row) → Among (drop i cuts) c → moment <ℤ c.band.from
later_begins cuts i d moment o lt here c a = ⊎_elim
    (λ (e : slice_index_or cuts i d ≡ c). subst (λ (v : Row). moment <ℤ v.band.from) e here)
    (λ le. omega (arith, ints, here, le))
    (ordered_from DepartsNoLater cuts i d o lt c a)

-- ---- one row without the cuts

-- a row that no cut meets is added whole
pub whole_added : (row : Row) (cuts : List Row) (zone : Bounds) → ((t u : ℤ) → Meets zone t u ↔ InBand row.band t u) → cuts ≡ [] → (old new : List Bounds) → new ≡ old ++ zone ∷ []
    → (t : ℤ) (u : ℤ) → SomeMeets new t u ↔ (SomeMeets old t u ⊎ (InBand row.band t u × (¬ SomeHasBand cuts t u)))
whole_added row cuts zone is none old new e t u =
    let more = meets_more old zone t u in
    subst (λ (v : List Bounds). SomeMeets v t u ↔ (SomeMeets old t u ⊎ (InBand row.band t u × (¬ SomeHasBand cuts t u)))) (sym e) (
      λ h. ⊎_elim (λ a. inl a) (λ a. inr ((is t u).0 a, λ (s : SomeHasBand cuts t u). absurd (subst (λ (v : List Row). Among v s.0) none s.1))) (more.0 h),
      λ h. more.1 (⊎_elim (λ a. inl a) (λ a. inr ((is t u).1 a.0)) h),
    )

-- a row is added without the one cut that meets it
pub one_cut_added : (row : Row) (cuts : List Row) (zone cut : Bounds) (d : Row) → ((t u : ℤ) → Meets zone t u ↔ InBand row.band t u) → ((t u : ℤ) → Meets cut t u ↔ InBand (slice_index_or cuts 0 d).band t u)
    → 1 ≤ length cuts → length cuts < 2 → (old new : List Bounds) → ((t : ℤ) (u : ℤ) → SomeMeets new t u ↔ (SomeMeets old t u ⊎ MeetsFirstOnly zone cut t u))
    → (t : ℤ) (u : ℤ) → SomeMeets new t u ↔ (SomeMeets old t u ⊎ (InBand row.band t u × (¬ SomeHasBand cuts t u)))
one_cut_added row [] zone cut d is cuts_is some few old new added t u = absurd (omega arith)
one_cut_added row (c ∷ []) zone cut d is cut_is some few old new added t u = (
  λ h. ⊎_elim
      (λ a. inl a)
      (λ a. inr ((is t u).0 a.0, λ (s : SomeHasBand (c ∷ []) t u). a.1 ((cut_is t u).1 (⊎_elim (λ (e : c ≡ s.0). subst (λ (v : Row). InBand v.band t u) (sym e) s.2) (λ f. absurd f) s.1))))
      ((added t u).0 h),
  λ h. (added t u).1 (⊎_elim (λ a. inl a) (λ a. inr ((is t u).1 a.0, λ m. a.1 (c, inl refl, (cut_is t u).0 m))) h),
)
one_cut_added row (c ∷ e ∷ more) zone cut d is cut_is some few old new added t u = absurd (omega arith)

-- a row is added without the cuts
pub rest_added : (row : Row) (cuts : List Row) (zone : Bounds) → ((t u : ℤ) → Meets zone t u ↔ InBand row.band t u) → (zones read rest copied : List Bounds) → AreOfBands cuts zones → read ≡ zones
    → AreLeft (zone ∷ []) read rest → copied ≡ rest → (old new : List Bounds) → new ≡ old ++ copied
    → (t : ℤ) (u : ℤ) → SomeMeets new t u ↔ (SomeMeets old t u ⊎ (InBand row.band t u × (¬ SomeHasBand cuts t u)))
rest_added row cuts zone is zones read rest copied of_cuts e left f old new g t u =
    let added = left_added (zone ∷ []) read old rest copied new left f g t u in
    let so : SomeMeets new t u ↔ (SomeMeets old t u ⊎ OnlyFirstMeets (zone ∷ []) zones t u) =
    subst (λ (v : List Bounds). SomeMeets new t u ↔ (SomeMeets old t u ⊎ OnlyFirstMeets (zone ∷ []) v t u)) e added in (
      λ h. ⊎_elim
          (λ a. inl a)
          (λ a. inr ((is t u).0 (⊎_elim (λ m. m) (λ n. absurd n) a.0), λ s. a.1 ((of_cuts t u).1 s)))
          (so.0 h),
      λ h. so.1 (⊎_elim
          (λ a. inl a)
          (λ a. inr (inl ((is t u).1 a.0), λ s. a.1 ((of_cuts t u).0 s)))
          h),
    )

-- ---- the rows that were taken

-- what is left of the rows before the place, and the cuts that aren't passed for the rows from the place on
pub record HasTaken (rows cuts : List Row) (i : ℕ) (later : List Row) (left : List Bounds) : Type 0 where
  pub order : Ordered DepartsNoLater later
  pub there : (c : Row) → Among later c → Among cuts c
  pub passed : (c : Row) → Among cuts c → Among later c ⊎ ((r : Row) → Among (drop i rows) r → c.band.to <ℤ r.band.from)
  pub holds : (t u : ℤ) → SomeMeets left t u ↔ OnlyFirstHasBand (take i rows) cuts t u

pub none_taken : (rows cuts : List Row) (left : List Bounds) → left ≡ [] → Ordered DepartsNoLater cuts → HasTaken rows cuts 0 cuts left
none_taken rows cuts left e order = record {
  order = order;
  there = λ c a. a;
  passed = λ c a. inl a;
  holds = λ t u. (
    λ h. absurd (subst (λ (v : List Bounds). SomeMeets v t u) e h),
    λ h. (no_bands rows left e t u).1 h.0,
  );
}

module _ (rows cuts : List Row) (order : Ordered DepartsNoLater rows) (i : ℕ) (d : Row) (lt : i < length rows) (later : List Row) (left : List Bounds) (g : HasTaken rows cuts i later left) where
  abbrev row : Row
  row = slice_index_or rows i d

  module _ (n : ℕ) (ended : (c : Row) → Among (take n later) c → c.band.to <ℤ row.band.from) (lasting : List Row) (back : lasting ≡ drop n later) where
    pub lasting_ordered : Ordered DepartsNoLater lasting
    lasting_ordered = subst (λ (v : List Row). Ordered DepartsNoLater v) (sym back) (rest_ordered DepartsNoLater later n g.order)

    lasting_there : (c : Row) → Among lasting c → Among cuts c
    lasting_there c a = g.there c (rest_among later n c (subst (λ (v : List Row). Among v c) back a))

    -- a cut that doesn't last ends before each row from here on departs
    lasting_passed : (c : Row) → Among cuts c → Among lasting c ⊎ ((r : Row) → Among (drop i rows) r → c.band.to <ℤ r.band.from)
    lasting_passed c a = ⊎_elim
        (λ b. ⊎_elim
        (λ k. inr (λ r m. let ends = ended c k in ⊎_elim
        (λ (e : slice_index_or rows i d ≡ r). subst (λ (v : Row). c.band.to <ℤ v.band.from) e ends)
        (λ le. omega (arith, ints, ends, le))
        (ordered_from DepartsNoLater rows i d order lt r m)))
        (λ k. inl (subst (λ (v : List Row). Among v c) (sym back) k))
        (among_either later n c b))
        (λ f. inr f)
        (g.passed c a)

    module _ (m : ℕ) (begun : (c : Row) → Among (drop m lasting) c → row.band.to <ℤ c.band.from) (met : List Row) (front : met ≡ take m lasting) where
      met_there : (c : Row) → Among met c → Among cuts c
      met_there c a = lasting_there c (front_among lasting m c (subst (λ (v : List Row). Among v c) front a))

      pub met_formed : ((c : Row) → Among cuts c → IsWellFormed c.band) → (c : Row) → Among met c → IsWellFormed c.band
      met_formed formed c a = formed c (met_there c a)

      -- a cut that has a pair of the row is met
      cut_met : (t u : ℤ) → InBand row.band t u → (c : Row) → Among cuts c → InBand c.band t u → Among met c
      cut_met t u h c a k =
          let from = h.from in
          let to = h.to in
          let begins = k.from in
          let ends = k.to in
          ⊎_elim
          (λ b. ⊎_elim
          (λ w. subst (λ (v : List Row). Among v c) (sym front) w)
          (λ w. let apart = begun c w in absurd (omega (arith, ints, apart, begins, to)))
          (among_either lasting m c b))
          (λ f. let apart = f row (here_among rows i d lt) in absurd (omega (arith, ints, apart, ends, from)))
          (lasting_passed c a)

      pub one_taken : (next : List Bounds) → ((t : ℤ) (u : ℤ) → SomeMeets next t u ↔ (SomeMeets left t u ⊎ (InBand row.band t u × (¬ SomeHasBand met t u)))) → HasTaken rows cuts (i + 1) lasting next
      one_taken next added = record {
        order = lasting_ordered;
        there = lasting_there;
        passed = λ c a. ⊎_elim (λ b. inl b) (λ f. inr (λ r k. f r (further_among rows i d lt r k))) (lasting_passed c a);
        holds = λ t u. (
          λ h. ⊎_elim
              (λ a. let b = (g.holds t u).0 a in (((b.0).0, more_among rows i row (b.0).0 lt (get_or_default rows i d row lt) (inl (b.0).1), (b.0).2), b.1))
              (λ a. ((row, more_among rows i row row lt (get_or_default rows i d row lt) (inr refl), a.0), λ (s : SomeHasBand cuts t u). a.1 (s.0, cut_met t u a.0 s.0 s.1 s.2, s.2)))
              ((added t u).0 h),
          λ (h : OnlyFirstHasBand (take (i + 1) rows) cuts t u). let r = h.0 in (added t u).1 (⊎_elim
              (λ a. inl ((g.holds t u).1 ((r.0, a, r.2), h.1)))
              (λ (e : slice_index_or rows i d ≡ r.0). inr (subst (λ (v : Row). InBand v.band t u) (sym e) r.2, λ (s : SomeHasBand met t u). h.1 (s.0, met_there s.0 s.1, s.2)))
              (among_more rows i row r.0 lt (get_or_default rows i d row lt) r.1)),
        );
      }

pub all_taken : (rows cuts : List Row) (i : ℕ) (later : List Row) (left : List Bounds) → length rows ≤ i → HasTaken rows cuts i later left
    → (t : ℤ) (u : ℤ) → SomeMeets left t u ↔ OnlyFirstHasBand rows cuts t u
all_taken rows cuts i later left le g t u = subst (λ (v : List Row). SomeMeets left t u ↔ OnlyFirstHasBand v cuts t u) (take_all i rows le) (g.holds t u)
