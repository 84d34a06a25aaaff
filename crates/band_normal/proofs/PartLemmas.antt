-- Zones parted into groups that lie far from each other.
use Rattle.std.proofs.Common.{◌≡◌, ◌⊎◌, ◌↔◌, inl, inr, ⊎_elim, ℕ, ◌+◌, ◌<◌, ◌≤◌, ℤ, pos, ◌+ℤ◌, ◌≤ℤ◌, ◌<ℤ◌, List, [], ◌∷◌, ◌++◌, length, get_or, take, drop, slice_index_or, Result, Ok, Err, true, refl, sym, ◌∙◌, subst, arith, append-nil, append_assoc}
use Rattle.std.specs.Prelude.{IfOk, ◌==◌}
use Rattle.std.specs.Global.{Global}
use Rattle.std.specs.declared.vec.Vec.{Vec}
use Rattle.std.specs.declared.alloc.AllocError.{AllocError}
use Rattle.std.proofs.lemmas.Int.{ints}
use Rattle.std.proofs.lemmas.List.{take_more}
use Rattle.std.specs.List.Sorted.{IsPermutation, IsSortedByKey}
use Rattle.std.specs.List.{AllAdjacentBelow}
use Rattle.std.specs.Ordering.{int_cmp, is_le}
use Rattle.zone_core.specs.declared.Bounds.{Bounds}
use Rattle.zone_core.specs.Zone.{Meets}
use Rattle.band_normal.specs.declared.band.Band.{Band}
use Rattle.band_normal.specs.declared.parts.Measure.{Measure}
use Rattle.band_normal.specs.declared.parts.Measure.TheVariants.{Departure, Arrival, Difference}
use Rattle.itpg_base.specs.Lists.{Among, Ordered}
use Rattle.band_normal.specs.Bands.{IsWellFormed, InBand}
use Rattle.band_normal.specs.Normal.{Normal, IsBefore}
use Rattle.band_normal.specs.Zones.{SomeMeets}
use Rattle.band_normal.specs.declared.strips.Stretch.{Stretch}
use Rattle.band_normal.specs.Strips.{Holds, Covers, BeginsEarlier}
use Rattle.band_normal.specs.Rows.{AreApart, AreAll, AreRowsTo, CanSweep, CanOrder}
use Rattle.band_normal.specs.Parts.{begin_of, end_of, BeginsNoLater, IsBelow, AreFar, AreRowsOf, AddsRows}
use Rattle.itpg_base.proofs.Lists.{among_append, append_first, append_second, ordered_from_neighbours, ordered_from, ordered_second, permutation_among, among_permutation}
use Rattle.band_normal.proofs.Activity.{not_below}
use Rattle.band_normal.proofs.WellFormed.{row-well_formed, held-in_range}
use Rattle.band_normal.proofs.Zoning.{some-append, holds-append, more_formed}
use Rattle.band_normal.proofs.Sorting.{normal_like, swept_all}
use Rattle.band_normal.proofs.Sweeping.{holds-permutation}
use Rattle.band_normal.proofs.Far.{Either, all_like, all_both, all-holds}
use Rattle.band_normal.proofs.Prolonging.{one_held}

pub some_in : (zones : List Bounds) (t u : ℤ) → SomeMeets zones t u → (z : Bounds) × Among zones z × Meets z t u
some_in [] t u h = absurd h
some_in (z ∷ zs) t u (inl m) = (z, inl refl, m)
some_in (z ∷ zs) t u (inr h) = let w = some_in zs t u h in (w.0, inr w.1, w.2)

pub in_some : (zones : List Bounds) (z : Bounds) (t u : ℤ) → Among zones z → Meets z t u → SomeMeets zones t u
in_some [] z t u i m = absurd i
in_some (y ∷ ys) z t u (inl e) m = inl (subst (λ (v : Bounds). Meets v t u) (sym e) m)
in_some (y ∷ ys) z t u (inr i) m = inr (in_some ys z t u i m)

pub some-permutation : (xs ys : List Bounds) → IsPermutation xs ys → (t u : ℤ) → SomeMeets ys t u ↔ SomeMeets xs t u
some-permutation xs ys p t u = (
  λ h. let w = some_in ys t u h in in_some xs w.0 t u (permutation_among xs ys p w.0 w.1) w.2,
  λ h. let w = some_in xs t u h in in_some ys w.0 t u (among_permutation xs ys p w.0 w.1) w.2,
)

-- zones that are below others in one measure lie far from them
pub far_below : (m : Measure) (xs ys : List Bounds) → ((x y : Bounds) → Among xs x → Among ys y → IsBelow m x y) → AreFar (SomeMeets xs) (SomeMeets ys)
far_below m xs ys below = record {
  beside = λ t u v h k. let x = some_in xs t u h in let y = some_in ys t v k in beside m x.0 y.0 (below x.0 y.0 x.1 y.1) t u v x.2 y.2;
  before = λ t u v h k. let x = some_in xs t u h in let y = some_in ys (t +ℤ pos 1) v k in before m x.0 y.0 (below x.0 y.0 x.1 y.1) t u v x.2 y.2;
  after = λ t u v k h. let y = some_in ys t u k in let x = some_in xs (t +ℤ pos 1) v h in after m x.0 y.0 (below x.0 y.0 x.1 y.1) t u v y.2 x.2;
}
  where
    beside : (m : Measure) (x y : Bounds) → IsBelow m x y → (t u v : ℤ) → Meets x t u → Meets y t v → ((u +ℤ pos 1) <ℤ v) ⊎ ((v +ℤ pos 1) <ℤ u)
    beside Departure x y b t u v h k = absurd (let a = h.to in let c = k.from in omega (arith, ints))
    beside Arrival x y b t u v h k = inl (let a = h.high in let c = k.low in omega (arith, ints))
    beside Difference x y b t u v h k = inl (let a = h.most in let c = k.least in omega (arith, ints))

    before : (m : Measure) (x y : Bounds) → IsBelow m x y → (t u v : ℤ) → Meets x t u → Meets y (t +ℤ pos 1) v → (v <ℤ u) ⊎ ((u +ℤ pos 1) <ℤ v)
    before Departure x y b t u v h k = absurd (let a = h.to in let c = k.from in omega (arith, ints))
    before Arrival x y b t u v h k = inr (let a = h.high in let c = k.low in omega (arith, ints))
    before Difference x y b t u v h k = inr (let a = h.most in let c = k.least in omega (arith, ints))

    after : (m : Measure) (x y : Bounds) → IsBelow m x y → (t u v : ℤ) → Meets y t u → Meets x (t +ℤ pos 1) v → (v <ℤ u) ⊎ ((u +ℤ pos 1) <ℤ v)
    after Departure x y b t u v k h = absurd (let a = h.to in let c = k.from in omega (arith, ints))
    after Arrival x y b t u v k h = inl (let a = h.high in let c = k.low in omega (arith, ints))
    after Difference x y b t u v k h = inl (let a = h.most in let c = k.least in omega (arith, ints))

pub sorted_begins : (m : Measure) (zones : List Bounds) → IsSortedByKey (λ (z : Bounds). begin_of m z) int_cmp zones → Ordered (BeginsNoLater m) zones
sorted_begins m zones h = ordered_from_neighbours (BeginsNoLater m) (λ x y z a b. omega (arith, ints)) zones (λ k d l. not_below _ _ (h k d (omega arith) l))

-- zones that a look at neighbours finds in order
pub found_begins : (m : Measure) (zones : List Bounds) → AllAdjacentBelow (λ (x y : Bounds). true ≡ is_le (int_cmp (begin_of m x) (begin_of m y))) zones (length zones) → Ordered (BeginsNoLater m) zones
found_begins m zones h = ordered_from_neighbours (BeginsNoLater m) (λ x y z a b. omega (arith, ints)) zones (λ k d l. not_above _ _ (h k d l))
  where
    not_above : (a b : ℤ) → true ≡ is_le (int_cmp a b) → a ≤ℤ b
    not_above a b e = grind (arith, ints)

-- how far the zones reach with one more
pub reached_more : (m : Measure) (zones : List Bounds) (i : ℕ) (z d : Bounds) (old new : ℤ) → i < length zones → z ≡ get_or zones i d → ((x : Bounds) → Among (take i zones) x → end_of m x ≤ℤ old) → old ≤ℤ new → end_of m z ≤ℤ new
    → (x : Bounds) → Among (take (i + 1) zones) x → end_of m x ≤ℤ new
reached_more m zones i z d old new lt is all le here x h = ⊎_elim
    (λ j. let a = all x j in omega (arith, ints))
    (λ j. ⊎_elim (λ (e : get_or zones i d ≡ x). subst (λ (v : Bounds). end_of m v ≤ℤ new) (is ∙ e) here) (λ f. absurd f) j)
    (among_append (take i zones) (get_or zones i d ∷ []) x (subst (λ (v : List Bounds). Among v x) (take_more zones i d lt) h))

-- how far the bands depart with one more
pub departs_more : (bands : List Band) (i : ℕ) (d : Band) (old new : ℤ) → i < length bands → ((b : Band) → Among (take i bands) b → b.to ≤ℤ old) → old ≤ℤ new → (get_or bands i d).to ≤ℤ new
    → (b : Band) → Among (take (i + 1) bands) b → b.to ≤ℤ new
departs_more bands i d old new lt all le here b h = ⊎_elim
    (λ j. let a = all b j in omega (arith, ints))
    (λ j. ⊎_elim (λ (e : get_or bands i d ≡ b). subst (λ (v : Band). v.to ≤ℤ new) e here) (λ f. absurd f) j)
    (among_append (take i bands) (get_or bands i d ∷ []) b (subst (λ (v : List Band). Among v b) (take_more bands i d lt) h))

-- a zone that begins above all that came before, and so do the zones after it
pub group_apart : (m : Measure) (zones : List Bounds) (i : ℕ) (z d : Bounds) (reach : ℤ) → Ordered (BeginsNoLater m) zones → i < length zones → z ≡ get_or zones i d → ((x : Bounds) → Among (take i zones) x → end_of m x ≤ℤ reach)
    → (reach +ℤ pos 1) <ℤ begin_of m z → (x y : Bounds) → Among (take i zones) x → Among (drop i zones) y → IsBelow m x y
group_apart m zones i z d reach o lt is all above x y h k =
    let here : (reach +ℤ pos 1) <ℤ begin_of m (get_or zones i d) = subst (λ (v : Bounds). (reach +ℤ pos 1) <ℤ begin_of m v) is above in
    let a = all x h in
    ⊎_elim
    (λ (e : get_or zones i d ≡ y). subst (λ (v : Bounds). (end_of m x +ℤ pos 1) <ℤ begin_of m v) e (omega (arith, ints)))
    (λ le. omega (arith, ints))
    (ordered_from (BeginsNoLater m) zones i d o lt y k)

pub none_past : {X : Type 0} (xs : List X) (x : X) → Among (drop (length xs) xs) x → ⊥
none_past [] x h = h
none_past (y ∷ ys) x h = none_past ys x h

-- rows of zones that hold the same
pub rows_like : (xs ys : List Bounds) (rows : List Band) → ((t u : ℤ) → SomeMeets xs t u ↔ SomeMeets ys t u) → AreRowsOf xs rows → AreRowsOf ys rows
rows_like xs ys rows f a = record { all = all_like (SomeMeets xs) (SomeMeets ys) rows f a.all; well_formed = a.well_formed }

pub adds_like : (old new : List Band) (xs ys : List Bounds) → ((t u : ℤ) → SomeMeets xs t u ↔ SomeMeets ys t u) → AddsRows old xs new → AddsRows old ys new
adds_like old new xs ys f a = record { more = a.more; is = a.is; rows = rows_like xs ys a.more f a.rows }

pub adds_nothing : (rows : List Band) → AddsRows rows [] rows
adds_nothing rows = record {
  more = [];
  is = sym (append-nil rows);
  rows = record { all = record { each = λ b i. absurd i; whole = λ t u h. absurd h; apart = tt }; well_formed = λ b i. absurd i };
}

pub adds_both : (old rows new : List Band) (done group : List Bounds) → AreFar (SomeMeets done) (SomeMeets group) → AddsRows old done rows → AddsRows rows group new → AddsRows old (done ++ group) new
adds_both old rows new done group far a b = record {
  more = a.more ++ b.more;
  is = subst (λ (v : List Band). new ≡ v) (append_assoc old a.more b.more) (subst (λ (v : List Band). new ≡ v ++ b.more) a.is b.is);
  rows = record {
    all = all_like (Either (SomeMeets done) (SomeMeets group)) (SomeMeets (done ++ group)) (a.more ++ b.more) (λ t u. ((some-append done group t u).1, (some-append done group t u).0)) (all_both (SomeMeets done) (SomeMeets group) a.more b.more far a.rows.all b.rows.all);
    well_formed = more_formed a.more b.more (a.more ++ b.more) refl a.rows.well_formed b.rows.well_formed;
  };
}

-- of the zones in order, some are done, and what is left lies above them
pub record IsParting (m : Measure) (sorted left : List Bounds) (old rows : List Band) : Type 0 where
  pub done : List Bounds
  pub parts : sorted ≡ done ++ left
  pub order : Ordered (BeginsNoLater m) left
  pub apart : (x y : Bounds) → Among done x → Among left y → IsBelow m x y
  pub adds : AddsRows old done rows

pub parting_start : (m : Measure) (sorted : List Bounds) (old : List Band) → Ordered (BeginsNoLater m) sorted → IsParting m sorted sorted old old
parting_start m sorted old o = record { done = []; parts = refl; order = o; apart = λ x y i j. absurd i; adds = adds_nothing old }

pub parting_step : (m : Measure) (sorted left group later : List Bounds) (n : ℕ) (old rows new : List Band) → IsParting m sorted left old rows → left ≡ group ++ later → group ≡ take n left → later ≡ drop n left
    → ((x y : Bounds) → Among (take n left) x → Among (drop n left) y → IsBelow m x y) → AddsRows rows group new → IsParting m sorted later old new
parting_step m sorted left group later n old rows new p whole front back below adds =
    let left_in : (y : Bounds) → Among group y → Among left y = λ y i. subst (λ (v : List Bounds). Among v y) (sym whole) (append_first group later y i) in
    let later_in : (y : Bounds) → Among later y → Among left y = λ y i. subst (λ (v : List Bounds). Among v y) (sym whole) (append_second group later y i) in
    record {
      done = p.done ++ group;
      parts = p.parts ∙ subst (λ (v : List Bounds). p.done ++ left ≡ p.done ++ v) whole refl ∙ sym (append_assoc p.done group later);
      order = ordered_second (BeginsNoLater m) group later (subst (λ (v : List Bounds). Ordered (BeginsNoLater m) v) whole p.order);
      apart = λ x y i j. ⊎_elim
          (λ k. p.apart x y k (later_in y j))
          (λ k. below x y (subst (λ (v : List Bounds). Among v x) front k) (subst (λ (v : List Bounds). Among v y) back j))
          (among_append p.done group x i);
      adds = adds_both old rows new p.done group (far_below m p.done group (λ x y i j. p.apart x y i (left_in y j))) p.adds adds;
    }

pub parting_end : (m : Measure) (sorted left zones : List Bounds) (old rows : List Band) → IsParting m sorted left old rows → left ≡ [] → ((t u : ℤ) → SomeMeets sorted t u ↔ SomeMeets zones t u) → AddsRows old zones rows
parting_end m sorted left zones old rows p e f =
    let all : sorted ≡ p.done = subst (λ (v : List Bounds). sorted ≡ p.done ++ v) e p.parts ∙ append-nil p.done in
    adds_like old rows p.done zones (subst (λ (v : List Bounds). (t u : ℤ) → SomeMeets v t u ↔ SomeMeets zones t u) all f) p.adds

ordered_among : {X : Type 0} (Before After : X → X → Type 0) (xs : List X) → ((x y : X) → Among xs x → Among xs y → Before x y → After x y) → Ordered Before xs → Ordered After xs
ordered_among Before After [] f o = tt
ordered_among Before After (x ∷ xs) f o = (λ y i. f x y (inl refl) (inr i) (o.0 y i), ordered_among Before After xs (λ a b i j. f a b (inr i) (inr j)) o.1)

not_before : (x : Band) → IsBefore x x → ⊥
not_before x (inl lt) = omega (arith, ints)
not_before x (inr (e, lt)) = omega (arith, ints)

-- the rows of a normal list are all rows
pub normal_all : (R : ℤ → ℤ → Type 0) (rows : List Band) → Normal R rows → AreAll R rows
normal_all R rows n = record {
  each = n.each;
  whole = n.whole;
  apart = ordered_among IsBefore AreApart rows (λ x y i j b t u p q. not_before x (subst (λ (v : Band). IsBefore x v) (sym (n.once x y t u i j p q)) b)) n.order;
}

-- one zone's bands, added
lone_adds : (zone : Bounds) (old more new : List Band) → Normal (Meets zone) more → ((b : Band) → Among more b → IsWellFormed b) → new ≡ old ++ more → AddsRows old (zone ∷ []) new
lone_adds zone old more new n well e = record {
  more = more;
  is = e;
  rows = record {
    all = all_like (Meets zone) (SomeMeets (zone ∷ [])) more (λ t u. (λ h. inl h, ⊎_elim (λ h. h) absurd)) (normal_all (Meets zone) more n);
    well_formed = well;
  };
}

-- so where it is the one zone of a list
pub only_adds : (zones : List Bounds) (zone : Bounds) (old more new : List Band) → 1 ≤ length zones → length zones < 2 → zone ≡ slice_index_or zones 0 zone → Normal (Meets zone) more → ((b : Band) → Among more b → IsWellFormed b) → new ≡ old ++ more → AddsRows old zones new
only_adds (z ∷ []) zone old more new some few is n well e = subst (λ (k : Bounds). AddsRows old (k ∷ []) new) is (lone_adds zone old more new n well e)
only_adds [] zone old more new some few is n well e = absurd (omega arith)
only_adds (z ∷ y ∷ zs) zone old more new some few is n well e = absurd (omega arith)

-- rows in another order, with bands in another order, of the zones
pub swept_rows : (zones : List Bounds) (bands sorted rows : List Band) → ((t u : ℤ) → Holds bands t u ↔ SomeMeets zones t u) → IsPermutation bands sorted → CanOrder (Holds sorted) rows → AreRowsOf zones rows
swept_rows zones bands sorted rows pairs p c = record {
  all = all_like (Holds sorted) (SomeMeets zones) rows (λ t u. let same = holds-permutation bands sorted p t u in let f = pairs t u in (λ h. f.0 (same.0 h), λ h. same.1 (f.1 h))) c.all;
  well_formed = λ b i. row-well_formed (Holds sorted) b c.in_range (c.all.each b i);
}

-- all rows of the zones, added
pub rows_added : (zones : List Bounds) (old more more' new : List Band) → AreRowsOf zones more → more' ≡ more → new ≡ old ++ more' → AddsRows old zones new
rows_added zones old more more' new rows e f = record { more = more; is = f ∙ subst (λ (v : List Band). old ++ more' ≡ old ++ v) e refl; rows = rows }

-- all rows can be put in order
pub can_order : (zones : List Bounds) (rows : List Band) → AreRowsOf zones rows → CanOrder (Holds rows) rows
can_order zones rows a = record {
  in_range = held-in_range rows a.well_formed;
  all = all_like (SomeMeets zones) (Holds rows) rows (λ t u. let f = all-holds (SomeMeets zones) rows a.all t u in (f.1, f.0)) a.all;
}

pub ordered_normal : (zones : List Bounds) (rows list : List Band) → AreRowsOf zones rows → Normal (Holds rows) list → Normal (SomeMeets zones) list
ordered_normal zones rows list a n = normal_like (Holds rows) (SomeMeets zones) list (all-holds (SomeMeets zones) rows a.all) n

-- the zones of the rows so far and of one more
pub zones_more : (rows : List Band) (i : ℕ) (d : Band) (z : Bounds) (zones zones' : List Bounds) → i < length rows → zones' ≡ zones ++ z ∷ [] → ((t u : ℤ) → Meets z t u ↔ InBand (get_or rows i d) t u)
    → ((t u : ℤ) → SomeMeets zones t u ↔ Holds (take i rows) t u) → (t u : ℤ) → SomeMeets zones' t u ↔ Holds (take (i + 1) rows) t u
zones_more rows i d z zones zones' lt e one f t u =
    let b = get_or rows i d in
    let P : List Bounds → Type 0 = λ v. SomeMeets v t u ↔ Holds (take (i + 1) rows) t u in
    let Q : List Band → Type 0 = λ v. SomeMeets (zones ++ z ∷ []) t u ↔ Holds v t u in
    let x = some-append zones (z ∷ []) t u in
    let y = holds-append (take i rows) (b ∷ []) t u in
    let h = f t u in
    let m = one t u in
    subst P (sym e) (subst Q (sym (take_more rows i d lt)) (
      λ k. y.1 (⊎_elim (λ a. inl (h.0 a)) (λ a. inr (b, inl refl, m.0 (⊎_elim (λ q. q) absurd a))) (x.0 k)),
      λ k. x.1 (⊎_elim (λ a. inl (h.1 a)) (λ a. inr (inl (m.1 (one_held b t u a)))) (y.0 k)),
    ))

-- sorted bands can be swept
pub can_sweep : (bands sorted xs ys : List Band) (s : Stretch) → ((b : Band) → Among bands b → IsWellFormed b) → IsPermutation bands sorted → Ordered BeginsEarlier sorted → xs ≡ sorted → ys ≡ sorted → Covers xs s → CanSweep ys ys s
can_sweep bands sorted xs ys s well p o e f covers =
    subst (λ (v : List Band). CanSweep v v s) (sym f) (record {
      same = refl;
      order = o;
      well_formed = λ b i. well b (permutation_among bands sorted p b i);
      covers = subst (λ (v : List Band). Covers v s) e covers;
    })

-- all rows of the sorted bands are those of the zones
pub rows_swept : (zones : List Bounds) (bands sorted ys : List Band) (s : Stretch) (complete reaching reaching' rows : List Band) → ((t u : ℤ) → Holds bands t u ↔ SomeMeets zones t u) → IsPermutation bands sorted → ys ≡ sorted
    → CanSweep ys ys s → AreRowsTo (Holds ys) (s.to +ℤ pos 1) complete reaching → reaching' ≡ reaching → rows ≡ complete ++ reaching' → AreRowsOf zones rows
rows_swept zones bands sorted ys s complete reaching reaching' rows pairs p f can h e is =
    let all : rows ≡ complete ++ reaching = subst (λ (v : List Band). rows ≡ complete ++ v) e is in
    let whole : CanOrder (Holds ys) rows = subst (λ (v : List Band). CanOrder (Holds ys) v) (sym all) (swept_all ys ys s complete reaching can h) in
    swept_rows zones bands sorted rows pairs p (subst (λ (v : List Band). CanOrder (Holds v) rows) f whole)

-- zones without a band hold no pair
pub no_rows : (zones : List Bounds) (bands sorted xs rows : List Band) → ((t u : ℤ) → Holds bands t u ↔ SomeMeets zones t u) → IsPermutation bands sorted → xs ≡ sorted → xs ≡ [] → rows ≡ [] → AreRowsOf zones rows
no_rows zones bands sorted xs rows pairs p e none is =
    let empty : sorted ≡ [] = sym e ∙ none in
    subst (λ (v : List Band). AreRowsOf zones v) (sym is) (record {
      all = record {
        each = λ b i. absurd i;
        whole = λ t u h. let w = (pairs t u).1 h in absurd (subst (λ (v : List Band). Among v w.0) empty (among_permutation bands sorted p w.0 w.1));
        apart = tt;
      };
      well_formed = λ b i. absurd i;
    })

pub first_adds : (zones : List Bounds) (old new : List Band) → old ≡ [] → AddsRows old zones new → AreRowsOf zones new
first_adds zones old new e a = subst (λ (v : List Band). AreRowsOf zones v) (sym (subst (λ (v : List Band). new ≡ v ++ a.more) e a.is)) a.rows

pub ok_ordered : (zones : List Bounds) (rows : List Band) (r : Result (Vec Band Global) AllocError) → AreRowsOf zones rows → IfOk r (λ v. Normal (Holds rows) v.items) → IfOk r (λ v. Normal (SomeMeets zones) v.items)
ok_ordered zones rows (Ok v) a n = ordered_normal zones rows v.items a n
ok_ordered zones rows (Err e) a n = tt

pub ok_formed : (zones : List Bounds) (rows : List Band) (r : Result (Vec Band Global) AllocError) → AreRowsOf zones rows → IfOk r (λ v. Normal (Holds rows) v.items) → IfOk r (λ v. (b : Band) → Among v.items b → IsWellFormed b)
ok_formed zones rows (Ok v) a n = λ b i. row-well_formed (Holds rows) b (held-in_range rows a.well_formed) (n.each b i)
ok_formed zones rows (Err e) a n = tt

pub none_left : {X : Type 0} (xs : List X) → true ≡ (length xs == 0) → xs ≡ []
none_left [] e = refl
none_left (x ∷ xs) e = absurd (grind arith)
