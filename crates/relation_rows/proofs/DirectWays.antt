-- Ways by two rows whose band is that of one of them, and rows of such ways.
use Rattle.std.proofs.Common.{◌≡◌, ◌↔◌, ◌⊎◌, inl, inr, ⊎_elim, ℕ, ◌+◌, ◌<◌, ◌≤◌, ℤ, List, [], ◌∷◌, ◌++◌, length, take, slice_index_or, Bool, true, false, true≢false, refl, sym, ◌∙◌, ap, subst, arith}
use Rattle.std.proofs.lemmas.List.{take_all}
use Rattle.itpg_base.specs.Points.{Point, Relation}
use Rattle.itpg_base.specs.Lists.{Among, Ordered}
use Rattle.itpg_base.proofs.Lists.{among_append, append_first, append_second}
use Rattle.band_normal.specs.declared.band.Band.{Band}
use Rattle.band_normal.specs.Bands.{InBand, IsWellFormed}
use Rattle.relation_rows.specs.declared.rows.Row.{Row}
use Rattle.relation_rows.specs.Rows.{InRow, RowsHold, IsRelation, IsWide}
use Rattle.relation_rows.specs.Relations.{HasMiddlePoint}
use Rattle.relation_rows.specs.Ways.{GoesOn}
use Rattle.relation_rows.specs.Apart.{IsLone, AreLone, ComesApart}
use Rattle.relation_rows.specs.Direct.{LeadsOver, LeadsBy, AddsWays, AreItsRows}
use Rattle.relation_rows.proofs.Alike.{relation_of, rows_alike}
use Rattle.relation_rows.proofs.Listed.{rows_unique}
use Rattle.relation_rows.proofs.Pushing.{rows_more}
use Rattle.relation_rows.proofs.ApartRows.{apart_normal}

-- ---- rows that are added

pub not_told : (R : Relation) (old new : List Row) → (AreLone old → AreLone new) → AddsWays R false old new
not_told R old new lone = record { lone = lone; holds = λ e. absurd (true≢false (sym e)) }

pub as_well : (R S : Relation) (told : Bool) (old new : List Row) → ((x y : Point) → R x y ↔ S x y) → AddsWays R told old new → AddsWays S told old new
as_well R S told old new same a = record {
  lone = a.lone;
  holds = λ e x y. let h = a.holds e x y in (
    λ k. ⊎_elim (λ l. inl l) (λ l. inr ((same x y).0 l)) (h.0 k),
    λ k. h.1 (⊎_elim (λ l. inl l) (λ l. inr ((same x y).1 l)) k),
  );
}

-- what holds nothing is added by nothing
pub none_added : (R : Relation) (rows : List Row) → ((x y : Point) → R x y → ⊥) → AddsWays R true rows rows
none_added R rows none = record { lone = λ l. l; holds = λ e x y. (λ h. inl h, λ h. ⊎_elim (λ a. a) (λ a. absurd (none x y a)) h) }

module _ (r s : Row) where
  pub nothing_added : (rows : List Row) → ((t : ℤ) → (u : ℤ) → LeadsOver r.band s.band t u → ⊥) → AddsWays (LeadsBy r s) true rows rows
  nothing_added rows none = none_added (LeadsBy r s) rows (λ x y h. none x.moment y.moment ((h.0).moment, (h.1).pair, (h.2).pair))

  module _ (same : s.source.0 ≡ r.target.0) (w : Band) (lone : IsLone w) (is : (t : ℤ) → (u : ℤ) → InBand w t u ↔ LeadsOver r.band s.band t u) where
    abbrev way : Row
    way = record { source = r.source; target = s.target; band = w }

    leads : (x y : Point) → InRow way x y → LeadsBy r s x y
    leads x y i =
        let h = (is x.moment y.moment).0 i.pair in (
          record { object = r.target.0; moment = h.0 },
          record { source = i.source; target = refl; pair = h.1 },
          record { source = same; target = i.target; pair = h.2 },
        )

    led : (x y : Point) → LeadsBy r s x y → InRow way x y
    led x y b = record { source = (b.1).source; target = (b.2).target; pair = (is x.moment y.moment).1 ((b.0).moment, (b.1).pair, (b.2).pair) }

    pub way_added : (old next : List Row) → next ≡ old ++ way ∷ [] → AddsWays (LeadsBy r s) true old next
    way_added old next e = record {
      lone = λ l q a. ⊎_elim (λ b. l q b) (λ b. ⊎_elim (λ (f : way ≡ q). subst (λ (v : Row). IsLone v.band) f lone) (λ d. absurd d) b) (among_append old (way ∷ []) q (subst (λ (v : List Row). Among v q) e a));
      holds = λ f x y. (
        λ h. ⊎_elim
            (λ b. inl (h.0, b, h.2))
            (λ b. ⊎_elim (λ (g : way ≡ h.0). inr (leads x y (subst (λ (v : Row). InRow v x y) (sym g) h.2))) (λ d. absurd d) b)
            (among_append old (way ∷ []) h.0 (subst (λ (v : List Row). Among v h.0) e h.1)),
        λ h. ⊎_elim
            (λ b. (b.0, subst (λ (v : List Row). Among v b.0) (sym e) (append_first old (way ∷ []) b.0 b.1), b.2))
            (λ b. (way, subst (λ (v : List Row). Among v way) (sym e) (append_second old (way ∷ []) way (inl refl)), led x y b))
            h,
      );
    }

-- one part of a relation is added, and then another
pub then_added : (R S T : Relation) (old now next : List Row) → ((x y : Point) → T x y ↔ (R x y ⊎ S x y)) → AddsWays R true old now → AddsWays S true now next → AddsWays T true old next
then_added R S T old now next is a b = record {
  lone = λ l. b.lone (a.lone l);
  holds = λ e x y. let h = a.holds refl x y in let k = b.holds refl x y in let m = is x y in (
    λ w. ⊎_elim (λ v. ⊎_elim (λ u. inl u) (λ u. inr (m.1 (inl u))) (h.0 v)) (λ v. inr (m.1 (inr v))) (k.0 w),
    λ w. k.1 (⊎_elim (λ v. inl (h.1 (inl v))) (λ v. ⊎_elim (λ u. inl (h.1 (inr u))) (λ u. inr u) (m.0 v)) w),
  );
}

pub then_stopped : (R S T : Relation) (told other : Bool) (old now next : List Row) → AddsWays R told old now → AddsWays S other now next → AddsWays T false old next
then_stopped R S T told other old now next a b = not_told T old next (λ l. b.lone (a.lone l))

-- ---- one row of the second list after the other

no_row : (rows : List Row) (x y : Point) → RowsHold (take 0 rows) x y → ⊥
no_row [] x y h = h.1
no_row (r ∷ rs) x y h = h.1

pub none_onward : (row : Row) (here : List Row) (ways : List Row) → AddsWays (GoesOn row (take 0 here)) true ways ways
none_onward row here ways = none_added (GoesOn row (take 0 here)) ways (λ x y h. no_row here h.0 y h.2)

module _ (row : Row) (here : List Row) (k : ℕ) (d : Row) (lt : k < length here) (old now next : List Row) (so : AddsWays (GoesOn row (take k here)) true old now) where
  pub onward_more : (told : Bool) → told ≡ true → AddsWays (LeadsBy row (slice_index_or here k d)) told now next → AddsWays (GoesOn row (take (k + 1) here)) true old next
  onward_more told e pushed =
      then_added (GoesOn row (take k here)) (LeadsBy row (slice_index_or here k d)) (GoesOn row (take (k + 1) here)) old now next
      (λ x y. (
        λ h. ⊎_elim (λ a. inl (h.0, h.1, a)) (λ a. inr (h.0, h.1, a)) ((rows_more here k d lt h.0 y).0 h.2),
        λ h. ⊎_elim (λ a. (a.0, a.1, (rows_more here k d lt a.0 y).1 (inl a.2))) (λ a. (a.0, a.1, (rows_more here k d lt a.0 y).1 (inr a.2))) h,
      ))
      so (subst (λ (v : Bool). AddsWays (LeadsBy row (slice_index_or here k d)) v now next) e pushed)

pub all_onward : (row : Row) (here : List Row) (k : ℕ) (old now : List Row) → length here ≤ k → AddsWays (GoesOn row (take k here)) true old now → AddsWays (GoesOn row here) true old now
all_onward row here k old now le = subst (λ (v : List Row). AddsWays (GoesOn row v) true old now) (take_all k here le)

-- the rows from the row's target are all by which it goes on
pub from_here : (row : Row) (second here : List Row) → ((r : Row) → Among here r ↔ (Among second r × (r.source.0 ≡ row.target.0))) → (told : Bool) (old new : List Row)
    → AddsWays (GoesOn row here) told old new → AddsWays (GoesOn row second) told old new
from_here row second here are told old new = as_well (GoesOn row here) (GoesOn row second) told old new (λ x y. (
  λ (h : GoesOn row here x y). let g = h.2 in (h.0, h.1, (g.0, ((are g.0).0 g.1).0, g.2)),
  λ (h : GoesOn row second x y). (h.0, h.1, by_target h.0 x y h.1 h.2),
))
  where
    by_target : (m x y : Point) → InRow row x m → RowsHold second m y → RowsHold here m y
    by_target m x y i g = let j = g.2 in (g.0, (are g.0).1 (g.1, j.source ∙ sym i.target), g.2)

-- ---- one row of the first list after the other

pub no_ways_yet : (rows second ways : List Row) → ways ≡ [] → AddsWays (HasMiddlePoint (take 0 rows) second) true [] ways
no_ways_yet rows second ways e = subst (AddsWays (HasMiddlePoint (take 0 rows) second) true []) (sym e) (none_added (HasMiddlePoint (take 0 rows) second) [] (λ x y h. no_row rows x h.0 h.1))

module _ (rows second : List Row) (k : ℕ) (d : Row) (lt : k < length rows) (now next : List Row) (so : AddsWays (HasMiddlePoint (take k rows) second) true [] now) where
  pub ways_more : (told : Bool) → told ≡ true → AddsWays (GoesOn (slice_index_or rows k d) second) told now next → AddsWays (HasMiddlePoint (take (k + 1) rows) second) true [] next
  ways_more told e pushed =
      then_added (HasMiddlePoint (take k rows) second) (GoesOn (slice_index_or rows k d) second) (HasMiddlePoint (take (k + 1) rows) second) [] now next
      (λ x y. (
        λ h. ⊎_elim (λ a. inl (h.0, a, h.2)) (λ a. inr (h.0, a, h.2)) ((rows_more rows k d lt x h.0).0 h.1),
        λ h. ⊎_elim (λ a. (a.0, (rows_more rows k d lt x a.0).1 (inl a.1), a.2)) (λ a. (a.0, (rows_more rows k d lt x a.0).1 (inr a.1), a.2)) h,
      ))
      so (subst (λ (v : Bool). AddsWays (GoesOn (slice_index_or rows k d) second) v now next) e pushed)

pub all_ways_told : (rows second : List Row) (k : ℕ) (ways : List Row) → length rows ≤ k → AddsWays (HasMiddlePoint (take k rows) second) true [] ways → AddsWays (HasMiddlePoint rows second) true [] ways
all_ways_told rows second k ways le = subst (λ (v : List Row). AddsWays (HasMiddlePoint v second) true [] ways) (take_all k rows le)

pub told_lone : (R : Relation) (ways : List Row) → AddsWays R true [] ways → AreLone ways
told_lone R ways a = a.lone (λ r i. absurd i)

pub its_rows : (R : Relation) (ways rows : List Row) → AddsWays R true [] ways → Ordered ComesApart rows → ((r : Row) → Among rows r ↔ Among ways r) → AreItsRows R rows
its_rows R ways rows a order same =
    let lone : AreLone rows = λ r i. told_lone R ways a r ((same r).0 i) in
    record {
      normal = apart_normal rows lone order R (λ x y. let h = a.holds refl x y in (
        λ k. ⊎_elim (λ l. absurd l.1) (λ l. l) (h.0 (k.0, (same k.0).0 k.1, k.2)),
        λ k. let w = h.1 (inr k) in (w.0, (same w.0).1 w.1, w.2),
      ));
      formed = λ r i. (lone r i).formed;
    }

pub sorted_lone : (R : Relation) (ways sorted : List Row) → AddsWays R true [] ways → ((r : Row) → Among sorted r ↔ Among ways r) → AreLone sorted
sorted_lone R ways sorted a same r i = told_lone R ways a r ((same r).0 i)

pub its_settled : (R : Relation) (ways sorted rows : List Row) → AddsWays R true [] ways → ((r : Row) → Among sorted r ↔ Among ways r) → AreItsRows (RowsHold sorted) rows → AreItsRows R rows
its_settled R ways sorted rows a same is = record {
  normal = rows_alike (RowsHold sorted) R
      (λ x y k. ⊎_elim (λ l. absurd l.1) (λ l. l) ((a.holds refl x y).0 (k.0, (same k.0).0 k.1, k.2)))
      (λ x y h. let w = (a.holds refl x y).1 (inr h) in (w.0, (same w.0).1 w.1, w.2)) rows is.normal;
  formed = is.formed;
}

pub its_relation : (R : Relation) (rows : List Row) → AreItsRows R rows → IsRelation rows
its_relation R rows is = relation_of R rows is.normal is.formed

pub its_wide : (R : Relation) (rows : List Row) (limit : ℕ) → AreItsRows R rows → limit < length rows → IsWide R limit
its_wide R rows limit is many other n =
    let e = ap length (rows_unique R other rows n is.normal) in
    omega (arith, e, many)

-- the bands of a relation's rows are lone
pub relation_lone : (rows : List Row) → IsRelation rows → AreLone rows
relation_lone rows is r a =
    let row = is.normal.each r a in
    record { formed = is.formed r a; single_low = row.single_low; single_high = row.single_high }

pub lone_formed : (rows : List Row) → AreLone rows → (r : Row) → Among rows r → IsWellFormed r.band
lone_formed rows lone r a = (lone r a).formed
