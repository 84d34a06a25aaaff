-- What steps lead to from the sources of the rows, one source after the other.
use Rattle.std.proofs.Common.{◌≡◌, ◌↔◌, ◌⊎◌, inl, inr, ⊎_elim, ℕ, ◌+◌, ◌-◌, ◌<◌, ◌≤◌, List, [], ◌∷◌, ◌++◌, length, get_or, take, slice_index_or, Option, Some, refl, sym, ◌∙◌, subst, arith}
use Rattle.std.proofs.Common.{length-append}
use Rattle.std.specs.Prelude.{IfSome, slice_get}
use Rattle.std.proofs.lemmas.List.{get_or_default, take_all}
use Rattle.std.proofs.lemmas.Option.{slice_get_within, get_or_from_slice_get}
use Rattle.itpg_base.specs.Lists.{Among, Ordered}
use Rattle.itpg_base.proofs.Lists.{ordered_at}
use Rattle.itpg_base.proofs.Searches.{same_number}
use Rattle.itpg_base.specs.Points.{Point, Relation}
use Rattle.relation_rows.specs.declared.rows.Row.{Row}
use Rattle.relation_rows.specs.Rows.{between, Fits, NormalRows, RowBefore, RowsHold}
use Rattle.relation_rows.proofs.Alike.{fits_alike, hold_only, row_alike, rows_alike, rows_hold}
use Rattle.relation_rows.proofs.Composing.{at_sources}
use Rattle.relation_rows.proofs.Listed.{Listed, join}
use Rattle.relation_rows.proofs.Partitions.{among_more, more_among}
use Rattle.relation_rows.proofs.Sources.{source_up}
use Rattle.wide_witness.specs.Along.{IsAlong}
use Rattle.wide_witness.specs.BySource.{IsAlongFrom, IsSource}

-- what is there is as it is said of it
pub as_some : {X : Type 0} (P : X → Type 0) (o : Option X) (x : X) → o ≡ Some x → IfSome o P → P x
as_some {X} P o x e h = subst (λ (v : Option X). IfSome v P) e h

-- of rows in order, one has its source from an earlier one just where the last before it has the same
module _ (rows : List Row) (order : Ordered RowBefore rows) (i : ℕ) (row d : Row) (is : slice_get rows i ≡ Some row) where
  within : i < length rows
  within = slice_get_within rows i row is

  here : get_or rows i d ≡ row
  here = get_or_from_slice_get rows i row d is

  -- those before it have no later source
  up : (r : Row) → Among (take i rows) r → r.source.0 ≤ row.source.0
  up r a = source_up r row (subst (λ (v : Row). RowBefore r v) here (ordered_at RowBefore rows i d order within r a))

  module _ (some : 0 < i) where
    last_before : (r : Row) → Among (take i rows) r ↔ (Among (take (i - 1) rows) r ⊎ (get_or rows (i - 1) d ≡ r))
    last_before r =
        let next : (i - 1) + 1 ≡ i = omega arith in
        let lt : i - 1 < length rows = omega (arith, within) in
        let same : get_or rows (i - 1) d ≡ slice_index_or rows (i - 1) (get_or rows (i - 1) d) = get_or_default rows (i - 1) d (get_or rows (i - 1) d) lt in (
          λ a. among_more rows (i - 1) (get_or rows (i - 1) d) r lt same (subst (λ (v : ℕ). Among (take v rows) r) (sym next) a),
          λ h. subst (λ (v : ℕ). Among (take v rows) r) next (more_among rows (i - 1) (get_or rows (i - 1) d) r lt same h),
        )

    pub source_had : ((get_or rows (i - 1) d).source.0 ≡ row.source.0) ↔ IsSource (take i rows) row.source.0
    source_had = (
      λ e. (get_or rows (i - 1) d, (last_before (get_or rows (i - 1) d)).1 (inr refl), e),
      λ h. ⊎_elim
          (λ a.
          let first = source_up h.0 (get_or rows (i - 1) d) (ordered_at RowBefore rows (i - 1) d order (omega (arith, within)) h.0 a) in
          let second = up (get_or rows (i - 1) d) ((last_before (get_or rows (i - 1) d)).1 (inr refl)) in
          let e = h.2 in
          omega arith)
          (λ (e : get_or rows (i - 1) d ≡ h.0). subst (λ (v : Row). v.source.0 ≡ row.source.0) (sym e) h.2)
          ((last_before h.0).0 h.1),
    )

-- where none before it has its source, those before it have earlier ones
pub source_new : (rows : List Row) (i : ℕ) (row : Row) → Ordered RowBefore rows → slice_get rows i ≡ Some row → (IsSource (take i rows) row.source.0 → ⊥)
    → (r : Row) → Among (take i rows) r → r.source.0 < row.source.0
source_new rows i row order is not r a = elim (same_number r.source.0 row.source.0) [ inl e ↦ absurd (not (r, a, e)) | inr ne ↦ (let le = up rows order i row row is r a in omega arith) ]

-- normal rows of what leads from some sources
rows_at_sources : (R : Relation) (P : ℕ → Type 0) (rows : List Row) → Listed R (λ (q r : ℕ). P q) rows → NormalRows (λ x y. R x y × P x.object) rows
rows_at_sources R P rows l = record {
  whole = λ x y h. l.whole x y h.1 h.0;
  once = l.once;
  each = λ r a. row_alike (between R r.source.0 r.target.0) (λ t u. between R r.source.0 r.target.0 t u × P r.source.0) (λ t u h. (h, l.keys r a)) (λ t u h. h.0) r.band (l.each r a);
  order = l.order;
}

module _ (R : Relation) (P : ℕ → Type 0) (o : ℕ) (before : (q : ℕ) → P q → q < o) where
  -- behind those of earlier sources, the rows of one more
  pub rows_joined : (xs ys : List Row) → NormalRows (λ x y. R x y × P x.object) xs → NormalRows (λ x y. R x y × (x.object ≡ o)) ys
      → NormalRows (λ x y. R x y × (P x.object ⊎ (x.object ≡ o))) (xs ++ ys)
  rows_joined xs ys n m = rows_at_sources R (λ q. P q ⊎ (q ≡ o)) (xs ++ ys)
      (join R (λ q r. P q) (λ q r. q ≡ o) xs ys
      (at_sources R (λ x y. R x y × P x.object) P (λ x y. (λ h. h, λ h. h)) xs n)
      (at_sources R (λ x y. R x y × (x.object ≡ o)) (λ q. q ≡ o) (λ x y. (λ h. h, λ h. h)) ys m)
      (λ q r s t k e. inl (let l = before q k in omega arith)))

  pub fits_joined : (a b : ℕ) → Fits (λ x y. R x y × P x.object) a → Fits (λ x y. R x y × (x.object ≡ o)) b → Fits (λ x y. R x y × (P x.object ⊎ (x.object ≡ o))) (a + b)
  fits_joined a b f g = (f.0 ++ g.0, rows_joined f.0 g.0 f.1 g.1, (let l = f.2 in let m = g.2 in omega (arith, length-append {A = Row} f.0 g.0)))

-- the source of each row is one of these
pub row_source : (R : Relation) (P : ℕ → Type 0) (rows : List Row) → NormalRows (λ x y. R x y × P x.object) rows → (r : Row) → Among rows r → P r.source.0
row_source R P rows n r a = (at_sources R (λ x y. R x y × P x.object) P (λ x y. (λ h. h, λ h. h)) rows n).keys r a

module _ (one steps : List Row) (most : ℕ) where
  -- from the sources of some rows
  abbrev From : List Row → ℕ → Relation
  From rows n x y = IsAlong one steps n x y × IsSource rows x.object

  -- all that the steps lead to from the sources of these rows, and the bound of its rows for any number of steps
  pub record AreFrom (rows : List Row) (total : ℕ) (all : List Row) : Type 0 where
    pub made : NormalRows (From rows most) all
    pub few : (n : ℕ) → Fits (From rows n) total

  -- before the first row nothing leads
  pub none_from : (rows : List Row) → AreFrom (take 0 rows) 0 []
  none_from rows = record { made = none most; few = λ n. ([], none n, omega arith) }
    where
      no_row : (xs : List Row) (r : Row) → Among (take 0 xs) r → ⊥
      no_row [] r a = a
      no_row (x ∷ xs) r a = a

      none : (n : ℕ) → NormalRows (From (take 0 rows) n) []
      none n = record { whole = λ x y h. let s = h.1 in absurd (no_row rows s.0 s.1); once = λ r s x y a. absurd a; each = λ r a. absurd a; order = tt }

  module _ (rows : List Row) (i : ℕ) (d : Row) (lt : i < length rows) (total : ℕ) (all : List Row) (so : AreFrom (take i rows) total all) where
    abbrev row : Row
    row = slice_index_or rows i d

    is : row ≡ slice_index_or rows i row
    is = get_or_default rows i d row lt

    more_sources : (o : ℕ) → IsSource (take (i + 1) rows) o ↔ (IsSource (take i rows) o ⊎ (o ≡ row.source.0))
    more_sources o = (
      λ h. ⊎_elim (λ a. inl (h.0, a, h.2)) (λ (e : row ≡ h.0). inr (subst (λ (v : Row). o ≡ v.source.0) (sym e) (sym h.2))) (among_more rows i row h.0 lt is h.1),
      λ h. ⊎_elim (λ a. (a.0, more_among rows i row a.0 lt is (inl a.1), a.2)) (λ e. (row, more_among rows i row row lt is (inr refl), sym e)) h,
    )

    -- from a source that the rows before it have, nothing more leads
    pub row_passed : IsSource (take i rows) row.source.0 → AreFrom (take (i + 1) rows) total all
    row_passed had = record {
      made = rows_alike (From (take i rows) most) (From (take (i + 1) rows) most) (there most) (back most) all so.made;
      few = λ n. fits_alike (From (take i rows) n) (From (take (i + 1) rows) n) (there n) (back n) total (so.few n);
    }
      where
        there : (n : ℕ) (x y : Point) → From (take i rows) n x y → From (take (i + 1) rows) n x y
        there n x y h = (h.0, (more_sources x.object).1 (inl h.1))

        back : (n : ℕ) (x y : Point) → From (take (i + 1) rows) n x y → From (take i rows) n x y
        back n x y h = (h.0, ⊎_elim (λ a. a) (λ e. subst (λ (v : ℕ). IsSource (take i rows) v) (sym e) had) ((more_sources x.object).0 h.1))

    -- what leads from a later source is put behind the others
    module _ (later : (r : Row) → Among (take i rows) r → r.source.0 < row.source.0) where
      earlier : (q : ℕ) → IsSource (take i rows) q → q < row.source.0
      earlier q s = subst (λ (v : ℕ). v < row.source.0) s.2 (later s.0 s.1)

      pub source_later : (from : List Row) → NormalRows (IsAlongFrom one steps row.source.0 most) from → (r s : Row) → Among all r → Among from s → r.source.0 < s.source.0
      source_later from n r s a b =
          let first = earlier r.source.0 (row_source (IsAlong one steps most) (IsSource (take i rows)) all so.made r a) in
          let second : s.source.0 ≡ row.source.0 = row_source (IsAlong one steps most) (λ q. q ≡ row.source.0) from n s b in
          omega arith

      pub row_appended : (from next : List Row) (bound sum : ℕ) → NormalRows (IsAlongFrom one steps row.source.0 most) from → ((n : ℕ) → Fits (IsAlongFrom one steps row.source.0 n) bound)
          → next ≡ all ++ from → total + bound ≤ sum → AreFrom (take (i + 1) rows) sum next
      row_appended from next bound sum n few e le = subst (λ (v : List Row). AreFrom (take (i + 1) rows) sum v) (sym e) (record {
        made = rows_alike (Joined most) (From (take (i + 1) rows) most) (there most) (back most) (all ++ from)
            (rows_joined (IsAlong one steps most) (IsSource (take i rows)) row.source.0 earlier all from so.made n);
        few = λ m.
            let f = fits_alike (Joined m) (From (take (i + 1) rows) m) (there m) (back m) (total + bound)
            (fits_joined (IsAlong one steps m) (IsSource (take i rows)) row.source.0 earlier total bound (so.few m) (few m)) in
            (f.0, f.1, (let l = f.2 in omega arith));
      })
        where
          Joined : ℕ → Relation
          Joined m x y = IsAlong one steps m x y × (IsSource (take i rows) x.object ⊎ (x.object ≡ row.source.0))

          there : (m : ℕ) (x y : Point) → Joined m x y → From (take (i + 1) rows) m x y
          there m x y h = (h.0, (more_sources x.object).1 h.1)

          back : (m : ℕ) (x y : Point) → From (take (i + 1) rows) m x y → Joined m x y
          back m x y h = (h.0, (more_sources x.object).0 h.1)

  -- from the sources of all rows all leads
  module _ (rows : List Row) (value : rows ≡ one) (i total : ℕ) (all : List Row) (le : length rows ≤ i) (so : AreFrom (take i rows) total all) where
    whole : AreFrom one total all
    whole = subst (λ (v : List Row). AreFrom v total all) (take_all i rows le ∙ value) so

    from_some : (n : ℕ) (x y : Point) → IsAlong one steps n x y → From one n x y
    from_some n x y h = let w = h.0 in let r = w.2 in (h, (w.0, w.1, r.source))

    pub all_made : (x y : Point) → RowsHold all x y ↔ IsAlong one steps most x y
    all_made x y = (λ h. (hold_only (From one most) all whole.made x y h).0, λ h. rows_hold (From one most) all whole.made x y (from_some most x y h))

    pub all_fits : (limit : ℕ) → total ≤ limit → (n : ℕ) → Fits (IsAlong one steps n) limit
    all_fits limit few n =
        let f = fits_alike (From one n) (IsAlong one steps n) (λ x y h. h.0) (from_some n) total (whole.few n) in
        (f.0, f.1, (let l = f.2 in omega arith))
