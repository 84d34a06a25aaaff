-- Normal rows of one part of some ways after those of the parts before it.
use Rattle.std.proofs.Common.{◌≡◌, ◌⊎◌, inl, inr, ⊎_elim, ℕ, ◌+◌, ◌<◌, ◌≤◌, ℤ, pos, ◌+ℤ◌, ◌≤ℤ◌, ◌<ℤ◌, List, [], ◌∷◌, ◌++◌, length, take, drop, get_or, Some, None, false, refl, sym, ◌∙◌, subst, arith, true≢false, append_assoc, append-nil}
use Rattle.std.proofs.lemmas.Int.{ints}
use Rattle.std.proofs.lemmas.List.{take_all, take_more, take-append-drop}
use Rattle.std.specs.Prelude.{slice_get}
use Rattle.std.specs.Ordering.{nat_cmp, int_cmp, is_lt, ordering_then}
use Rattle.std.specs.declared.cmp.Ordering.{Ordering}
use Rattle.std.specs.declared.cmp.Ordering.TheVariants.{Equal}
use Rattle.itpg_base.specs.Points.{Point, Relation}
use Rattle.itpg_base.specs.Lists.{Among, Ordered}
use Rattle.itpg_base.proofs.Lists.{among_append, append_first, append_second, append_ordered, ordered_from, ordered_from_neighbours, among_at}
use Rattle.band_normal.specs.declared.band.Band.{Band}
use Rattle.band_normal.specs.declared.band.End.TheVariants.{Fixed}
use Rattle.band_normal.specs.Bands.{end_at}
use Rattle.band_normal.specs.Normal.{IsRun, IsRow}
use Rattle.band_normal.proofs.Activity.{not_below}
use Rattle.relation_rows.specs.declared.rows.Row.{Row}
use Rattle.relation_rows.specs.Rows.{between, InRow, RowsHold, HasKey, KeyBefore, RowBefore, NormalRows}
use Rattle.relation_rows.specs.Searching.{has_key}
use Rattle.relation_rows.specs.Apart.{AreLone, PartBefore, ComesApart, StandsUpTo}
use Rattle.relation_rows.specs.Direct.{AreItsRows}
use Rattle.relation_rows.proofs.ApartRows.{apart_normal, keys_on, key_on, key_first, key_second}
use Rattle.relation_rows.proofs.Alike.{rows_alike, row_start, in_relation}
use Rattle.relation_rows.proofs.Counting.{hold_either}
use Rattle.relation_rows.proofs.Diagonals.{point}
use Rattle.relation_rows.proofs.Keys.{is_key}
use Rattle.relation_rows.proofs.Listed.{key_apart}
use Rattle.relation_rows.proofs.Partitions.{front_among, rest_among, rest_ordered, no_first, first_before}
use Rattle.relation_rows.proofs.Objects.{Compared, compared, less, equal, greater}
use Rattle.relation_rows.proofs.Sorting.{up_to, first_not_less}
use Rattle.relation_rows.proofs.Splitting.{Either}

-- a row of the one relation is one of both, where the other has no pair at its departures nor at the moment behind them
module _ (R S U : ℤ → ℤ → Type 0) (to_both : (t u : ℤ) → R t u → U t u) (of_both : (t u : ℤ) → U t u → R t u ⊎ S t u) (b : Band)
    (none : (t u : ℤ) → b.from ≤ℤ t → t ≤ℤ (b.to +ℤ pos 1) → S t u → ⊥) where
  own_pair : (t u : ℤ) → b.from ≤ℤ t → t ≤ℤ (b.to +ℤ pos 1) → U t u → R t u
  own_pair t u from to h = ⊎_elim (λ r. r) (λ s. absurd (none t u from to s)) (of_both t u h)

  run_of_both : (t low high : ℤ) → b.from ≤ℤ t → t ≤ℤ (b.to +ℤ pos 1) → IsRun R t low high → IsRun U t low high
  run_of_both t low high from to run = record {
    some = run.some;
    each = λ u a c. to_both t u (run.each u a c);
    below = λ q. run.below (own_pair t _ from to q);
    above = λ q. run.above (own_pair t _ from to q);
  }

  run_of_one : (t low high : ℤ) → b.from ≤ℤ t → t ≤ℤ (b.to +ℤ pos 1) → IsRun U t low high → IsRun R t low high
  run_of_one t low high from to run = record {
    some = run.some;
    each = λ u a c. own_pair t u from to (run.each u a c);
    below = λ q. run.below (to_both t _ q);
    above = λ q. run.above (to_both t _ q);
  }

  pub row_of_both : IsRow R b → IsRow U b
  row_of_both row =
      let span = row.span in
      record {
        span = span;
        runs = λ t from to. run_of_both t _ _ from (omega (arith, ints, to)) (row.runs t from to);
        single_low = row.single_low;
        single_high = row.single_high;
        stops = λ low high run. row.stops low high (run_of_one (b.to +ℤ pos 1) low high (omega (arith, ints, span)) (omega (arith, ints)) run);
      }

-- every pair of the first relation comes before every one of the second: by its objects, or by a departure that is free
abbrev pub ComesClear : Relation → Relation → Type 0
ComesClear R S = (x y v w : Point) → R x y → S v w → KeyBefore x.object y.object v.object w.object ⊎ ((x.object ≡ v.object) × (y.object ≡ w.object) × ((x.moment +ℤ pos 1) <ℤ v.moment))

clear_once : (R S : Relation) → ComesClear R S → (o p : ℕ) (t u v w : ℤ) → R (point o t) (point p u) → S (point o v) (point p w) → (t +ℤ pos 1) <ℤ v
clear_once R S clear o p t u v w r s = ⊎_elim (λ k. absurd (key_apart _ _ _ _ k refl refl)) (λ k. k.2) (clear (point o t) (point p u) (point o v) (point p w) r s)

-- normal rows of the two, one behind the other
module _ (R S : Relation) (clear : ComesClear R S) (rs ss : List Row) (n : NormalRows R rs) (m : NormalRows S ss) where
  start_of : (Q : Relation) (qs : List Row) → NormalRows Q qs → (r : Row) → Among qs r → Q (point r.source.0 r.band.from) (point r.target.0 (end_at r.band.low r.band.from))
  start_of Q qs q r a = in_relation Q r _ _ (q.each r a) (record { source = refl; target = refl; pair = row_start _ r.band (q.each r a) })

  end_of : (r : Row) → Among rs r → R (point r.source.0 r.band.to) (point r.target.0 (end_at r.band.low r.band.to))
  end_of r a =
      let row = n.each r a in
      let run = row.runs r.band.to row.span (omega (arith, ints)) in
      run.each _ (omega (arith, ints)) run.some

  both_each : (r : Row) → Among (rs ++ ss) r → IsRow (between (Either R S) r.source.0 r.target.0) r.band
  both_each r a = ⊎_elim
      (λ b. row_of_both (between R r.source.0 r.target.0) (between S r.source.0 r.target.0) (between (Either R S) r.source.0 r.target.0) (λ t u h. inl h) (λ t u h. h) r.band
      (λ t u from to s. let l = clear_once R S clear r.source.0 r.target.0 r.band.to _ t u (end_of r b) s in omega (arith, ints, l, to))
      (n.each r b))
      (λ b. row_of_both (between S r.source.0 r.target.0) (between R r.source.0 r.target.0) (between (Either R S) r.source.0 r.target.0) (λ t u h. inr h) (λ t u h. ⊎_elim (λ k. inr k) (λ k. inl k) h) r.band
      (λ t u from to q. let l = clear_once R S clear r.source.0 r.target.0 t u r.band.from _ q (start_of S ss m r b) in omega (arith, ints, l, from))
      (m.each r b))
      (among_append rs ss r a)

  both_once : (r s : Row) (x y : Point) → Among (rs ++ ss) r → Among (rs ++ ss) s → InRow r x y → InRow s x y → r ≡ s
  both_once r s x y a b i j = ⊎_elim
      (λ c. ⊎_elim (λ d. n.once r s x y c d i j) (λ d. absurd (apart r s c d i j)) (among_append rs ss s b))
      (λ c. ⊎_elim (λ d. absurd (apart s r d c j i)) (λ d. m.once r s x y c d i j) (among_append rs ss s b))
      (among_append rs ss r a)
    where
      apart : (q t : Row) → Among rs q → Among ss t → InRow q x y → InRow t x y → ⊥
      apart q t c d k l = ⊎_elim
          (λ e. key_apart _ _ _ _ e refl refl)
          (λ e. let f = e.2 in omega (arith, ints, f))
          (clear x y x y (in_relation R q x y (n.each q c) k) (in_relation S t x y (m.each t d) l))

  pub both_normal : NormalRows (Either R S) (rs ++ ss)
  both_normal = record {
    whole = λ x y h. ⊎_elim
        (λ k. let w = n.whole x y k in (w.0, append_first rs ss w.0 w.1, w.2))
        (λ k. let w = m.whole x y k in (w.0, append_second rs ss w.0 w.1, w.2))
        h;
    once = both_once;
    each = both_each;
    order = append_ordered RowBefore rs ss n.order m.order (λ r s a b. ⊎_elim
        (λ k. inl k)
        (λ k. let l = k.2 in inr (k.0, k.1, inl (omega (arith, ints, l))))
        (clear _ _ _ _ (start_of R rs n r a) (start_of S ss m s b)));
  }

-- everything in the one list is of a part before everything in the other
abbrev pub AllBefore : List Row → List Row → Type 0
AllBefore rs ss = (r s : Row) → Among rs r → Among ss s → PartBefore r s

clear_of : (rs ss : List Row) → AllBefore rs ss → ComesClear (RowsHold rs) (RowsHold ss)
clear_of rs ss before x y v w h k = ⊎_elim
    (λ l. inl (key l))
    (λ l.
    let d = l.1 in
    let p = i.pair in
    let q = j.pair in
    let to = p.to in
    let from = q.from in
    inr (sym i.source ∙ sym (l.0).0 ∙ j.source, sym i.target ∙ sym (l.0).1 ∙ j.target, omega (arith, ints, d, to, from)))
    (before h.0 k.0 h.1 k.1)
  where
    i : InRow h.0 x y
    i = h.2

    j : InRow k.0 v w
    j = k.2

    key : KeyBefore (h.0).source.0 (h.0).target.0 (k.0).source.0 (k.0).target.0 → KeyBefore x.object y.object v.object w.object
    key l =
        subst (λ (o : ℕ). KeyBefore o y.object v.object w.object) i.source
        (subst (λ (o : ℕ). KeyBefore (h.0).source.0 o v.object w.object) i.target
        (subst (λ (o : ℕ). KeyBefore (h.0).source.0 (h.0).target.0 o w.object) j.source
        (subst (λ (o : ℕ). KeyBefore (h.0).source.0 (h.0).target.0 (k.0).source.0 o) j.target l)))

-- the rows are those of all ways but the last ones, which are left
pub record HasSettled (ways left done : List Row) : Type 0 where
  pub taken : List Row
  pub all : ways ≡ taken ++ left
  pub before : AllBefore taken left
  pub order : Ordered StandsUpTo left
  pub is : AreItsRows (RowsHold taken) done

pub none_settled : (ways done : List Row) → Ordered StandsUpTo ways → done ≡ [] → HasSettled ways ways done
none_settled ways done order e = subst (HasSettled ways ways) (sym e) (record {
  taken = [];
  all = refl;
  before = λ r s a b. absurd a;
  order = order;
  is = record {
    normal = record { whole = λ x y h. absurd h.1; once = λ r s x y a b i j. absurd a; each = λ r a. absurd a; order = tt };
    formed = λ r a. absurd a;
  };
})

pub next_settled : (ways left done : List Row) → HasSettled ways left done → (k : ℕ) → AllBefore (take k left) (drop k left) → (rows : List Row) → AreItsRows (RowsHold (take k left)) rows → HasSettled ways (drop k left) (done ++ rows)
next_settled ways left done h k apart rows is =
    let part = take k left in
    let later = drop k left in
    let taken = h.taken in
    let old = h.is in
    record {
      taken = taken ++ part;
      all = h.all ∙ subst (λ (v : List Row). taken ++ v ≡ (taken ++ part) ++ later) (take-append-drop k left) (sym (append_assoc taken part later));
      before = λ r s a b. ⊎_elim (λ c. h.before r s c (rest_among left k s b)) (λ c. apart r s c b) (among_append taken part r a);
      order = rest_ordered StandsUpTo left k h.order;
      is = record {
        normal = rows_alike (Either (RowsHold taken) (RowsHold part)) (RowsHold (taken ++ part)) (λ x y. (hold_either taken part x y).1) (λ x y. (hold_either taken part x y).0) (done ++ rows)
            (both_normal (RowsHold taken) (RowsHold part) (clear_of taken part (λ r s a b. h.before r s a (front_among left k s b))) done rows old.normal is.normal);
        formed = λ r a. ⊎_elim (λ b. old.formed r b) (λ b. is.formed r b) (among_append done rows r a);
      };
    }

pub all_settled : (ways left done : List Row) → HasSettled ways left done → None ≡ slice_get left 0 → AreItsRows (RowsHold ways) done
all_settled ways left done h none =
    let e = no_first left none in
    let same : ways ≡ h.taken = h.all ∙ subst (λ (v : List Row). h.taken ++ v ≡ h.taken) (sym e) (append-nil h.taken) in
    subst (λ (v : List Row). AreItsRows (RowsHold v) done) (sym same) h.is

-- what is left of lone ways is lone
pub left_lone : (ways left done : List Row) → HasSettled ways left done → AreLone ways → (k : ℕ) → AreLone (take k left)
left_lone ways left done h lone k r a = lone r (subst (λ (v : List Row). Among v r) (sym h.all) (append_second h.taken left r (front_among left k r a)))

-- ---- how far a part goes

-- what stands for a row behind the last one
abbrev pub no_row : Row
no_row = record { source = record { 0 = 0 }; target = record { 0 = 0 }; band = record { from = pos 0; to = pos 0; low = Fixed (pos 0); high = Fixed (pos 0) } }

-- the rows up to a place are of the first one's key, and depart up to a moment
abbrev pub AreOfPart : List Row → ℕ → Row → ℤ → Type 0
AreOfPart rows i first last = (r : Row) → Among (take i rows) r → HasKey r first.source.0 first.target.0 × (r.band.to ≤ℤ last)

pub none_of_part : (rows : List Row) (first : Row) (last : ℤ) → AreOfPart rows 0 first last
none_of_part rows first last r a = absurd a

pub one_of_part : (rows : List Row) (i : ℕ) (d first : Row) (old new : ℤ) → i < length rows → AreOfPart rows i first old → old ≤ℤ new → (get_or rows i d).band.to ≤ℤ new
    → HasKey (get_or rows i d) first.source.0 first.target.0 → AreOfPart rows (i + 1) first new
one_of_part rows i d first old new lt all le here key r h = ⊎_elim
    (λ j. let a = all r j in let to = a.1 in (a.0, omega (arith, ints, to, le)))
    (λ j. ⊎_elim (λ (e : get_or rows i d ≡ r). subst (λ (v : Row). HasKey v first.source.0 first.target.0 × (v.band.to ≤ℤ new)) e (key, here)) (λ f. absurd f) j)
    (among_append (take i rows) (get_or rows i d ∷ []) r (subst (λ (v : List Row). Among v r) (take_more rows i d lt) h))

module _ (rows : List Row) (i : ℕ) (d first : Row) (last : ℤ) (o : Ordered StandsUpTo rows) (lt : i < length rows) (is : slice_get rows 0 ≡ Some first) (all : AreOfPart rows i first last) where
  -- a row of a later key: it and those behind it come later
  pub later_key : (HasKey (get_or rows i d) first.source.0 first.target.0 → ⊥) → AllBefore (take i rows) (drop i rows)
  later_key other s t a b =
      let next = get_or rows i d in
      let k = (all s a).0 in
      let far : KeyBefore first.source.0 first.target.0 next.source.0 next.target.0 = ⊎_elim
      (λ (e : first ≡ next). absurd (other (subst (λ (v : Row). HasKey v first.source.0 first.target.0) e (refl, refl))))
      (λ h. ⊎_elim (λ l. l) (λ l. absurd (other l.0)) h)
      (first_before StandsUpTo rows first o is next (among_at rows i d lt)) in
      let to : KeyBefore first.source.0 first.target.0 t.source.0 t.target.0 = ⊎_elim
      (λ (e : next ≡ t). subst (λ (v : Row). KeyBefore first.source.0 first.target.0 v.source.0 v.target.0) e far)
      (λ h. ⊎_elim (λ l. keys_on _ _ _ _ _ _ far l) (λ l. key_first first next t far l.0) h)
      (ordered_from StandsUpTo rows i d o lt t b) in
      inl (key_second s first t (sym k.0, sym k.1) to)

  -- a row of this key behind a departure that is free
  pub later_departure : HasKey (get_or rows i d) first.source.0 first.target.0 → (last +ℤ pos 1) <ℤ (get_or rows i d).band.from → AllBefore (take i rows) (drop i rows)
  later_departure key free s t a b =
      let next = get_or rows i d in
      let k = (all s a).0 in
      let to = (all s a).1 in
      let same : HasKey next s.source.0 s.target.0 = (key.0 ∙ sym k.0, key.1 ∙ sym k.1) in
      ⊎_elim
      (λ (e : next ≡ t). subst (PartBefore s) e (inr (same, omega (arith, ints, to, free))))
      (λ h. ⊎_elim
      (λ l. inl (key_second s next t same l))
      (λ l. let begins = l.1 in inr ((l.0.0 ∙ same.0, l.0.1 ∙ same.1), omega (arith, ints, to, free, begins)))
      h)
      (ordered_from StandsUpTo rows i d o lt t b)

pub part_keys : (rows : List Row) (i : ℕ) (first : Row) (last : ℤ) → AreOfPart rows i first last → (r : Row) → Among (take i rows) r → HasKey r first.source.0 first.target.0
part_keys rows i first last all r a = (all r a).0

pub all_keys : (rows : List Row) (i : ℕ) (first : Row) (last : ℤ) → length rows ≤ i → AreOfPart rows i first last → (r : Row) → Among (take (length rows) rows) r → HasKey r first.source.0 first.target.0
all_keys rows i first last le all r a = (all r (subst (λ (v : List Row). Among v r) (take_all (length rows) rows (omega arith) ∙ sym (take_all i rows le)) a)).0

pub key_of_first : (rows : List Row) (i : ℕ) (d first : Row) → i ≡ 0 → slice_get rows 0 ≡ Some first → HasKey (get_or rows i d) first.source.0 first.target.0
key_of_first rows i d first none is = subst (λ (v : ℕ). HasKey (get_or rows v d) first.source.0 first.target.0) (sym none) (subst (λ (v : Row). HasKey v first.source.0 first.target.0) (sym (same rows is)) (refl, refl))
  where
    same : (xs : List Row) → slice_get xs 0 ≡ Some first → get_or xs 0 d ≡ first
    same [] e = let never : ⊥ = cc in absurd never
    same (x ∷ xs) e = cc

pub not_of_key : (r : Row) (o p : ℕ) → has_key r o p ≡ false → HasKey r o p → ⊥
not_of_key r o p other k = true≢false (sym (is_key r o p k) ∙ other)

-- ---- the rows of one part

pub apart_settled : (rows : List Row) → AreLone rows → Ordered ComesApart rows → AreItsRows (RowsHold rows) rows
apart_settled rows lone order = record { normal = apart_normal rows lone order (RowsHold rows) (λ x y. (λ h. h, λ h. h)); formed = λ r a. (lone r a).formed }

-- ---- rows that are sorted by source, target and first departure

equal_of : (a b : ℕ) → b ≡ a → nat_cmp a b ≡ Equal
equal_of a b g = first (compared a b)
  where
    first : Compared a b → nat_cmp a b ≡ Equal
    first (less l e) = absurd (omega (arith, l, g))
    first (equal l e) = e
    first (greater l e) = absurd (omega (arith, l, g))

up_to_row : (a b c d : ℕ) (e f : ℤ) → is_lt (ordering_then (ordering_then (nat_cmp a b) (nat_cmp c d)) (int_cmp e f)) ≡ false → KeyBefore b d a c ⊎ (((a ≡ b) × (c ≡ d)) × (f ≤ℤ e))
up_to_row a b c d e f h = ⊎_elim
    (λ k. inl k)
    (λ k. inr (
      (sym k.0, sym k.1),
      not_below f e (subst (λ (v : Ordering). is_lt (ordering_then (ordering_then Equal v) (int_cmp e f)) ≡ false) (equal_of c d k.1)
          (subst (λ (v : Ordering). is_lt (ordering_then (ordering_then v (nat_cmp c d)) (int_cmp e f)) ≡ false) (equal_of a b k.0) h)),
    ))
    (up_to a b c d (first_not_less (ordering_then (nat_cmp a b) (nat_cmp c d)) (int_cmp e f) h))

stands_on : (r s t : Row) → StandsUpTo r s → StandsUpTo s t → StandsUpTo r t
stands_on r s t (inl a) (inl b) = inl (keys_on _ _ _ _ _ _ a b)
stands_on r s t (inl a) (inr (k, b)) = inl (key_first r s t a k)
stands_on r s t (inr (k, a)) (inl b) = inl (key_second r s t k b)
stands_on r s t (inr (k, a)) (inr (j, b)) = inr (key_on r s t k j, omega (arith, ints, a, b))

pub sorted_ways : (rows : List Row)
    → ((k : ℕ) (d : Row) → 0 ≤ k → k + 1 < length rows → is_lt (ordering_then (ordering_then (nat_cmp (get_or rows (k + 1) d).source.0 (get_or rows k d).source.0) (nat_cmp (get_or rows (k + 1) d).target.0 (get_or rows k d).target.0)) (int_cmp (get_or rows (k + 1) d).band.from (get_or rows k d).band.from)) ≡ false)
    → Ordered StandsUpTo rows
sorted_ways rows up = ordered_from_neighbours StandsUpTo stands_on rows (λ k d lt. up_to_row _ _ _ _ _ _ (up k d (omega arith) lt))
