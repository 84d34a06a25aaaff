-- Rows from one source, and rows with others behind them whose sources come later, are relations.
use Rattle.std.proofs.Common.{◌≡◌, ◌↔◌, inl, ⊎_elim, ℕ, ◌<◌, List, ◌++◌, Bool, true, false, if◌then◌else◌, refl, sym, ◌∙◌, subst, arith}
use Rattle.itpg_base.specs.Points.{Point}
use Rattle.itpg_base.specs.Lists.{Among, Ordered}
use Rattle.itpg_base.proofs.Lists.{among_append, append_first, append_second, append_ordered}
use Rattle.relation_rows.specs.declared.rows.Row.{Row}
use Rattle.relation_rows.specs.Rows.{between, InRow, RowsHold, RowBefore, NormalRows, IsRelation}
use Rattle.relation_rows.specs.Searching.{AreKept}
use Rattle.relation_rows.proofs.Alike.{row_alike, relation_of}
use Rattle.relation_rows.proofs.Keeping.{kept_normal}

module _ (rows : List Row) (source : ℕ) (found : List Row) (are : (r : Row) → Among found r ↔ (Among rows r × (r.source.0 ≡ source))) (order : Ordered RowBefore found) (is : IsRelation rows) where
  are_kept : AreKept (λ (o p : ℕ). o ≡ source) rows found
  are_kept = record {
    there = λ r a. ((are r).0 a).0;
    so = λ r a. ((are r).0 a).1;
    whole = λ r a e. (are r).1 (a, e);
    order = order;
  }

  pub source_normal : NormalRows (λ x y. RowsHold rows x y × (x.object ≡ source)) found
  source_normal = kept_normal (λ (o p : ℕ). o ≡ source) rows (RowsHold rows) found is.normal are_kept

  pub source_relation : IsRelation found
  source_relation = relation_of (λ x y. RowsHold rows x y × (x.object ≡ source)) found source_normal (λ r a. is.formed r ((are r).0 a).0)

module _ (rows later : List Row) (first : IsRelation rows) (second : IsRelation later) (apart : (r : Row) → (s : Row) → Among rows r → Among later s → r.source.0 < s.source.0) where
  no_both : (r s : Row) → Among rows r → Among later s → r.source.0 ≡ s.source.0 → ⊥
  no_both r s a b e = let l = apart r s a b in omega arith

  same_source : (r s : Row) (x y : Point) → InRow r x y → InRow s x y → r.source.0 ≡ s.source.0
  same_source r s x y i j = i.source ∙ sym j.source

  once : (r s : Row) (x y : Point) → Among (rows ++ later) r → Among (rows ++ later) s → InRow r x y → InRow s x y → r ≡ s
  once r s x y a b i j = ⊎_elim
      (λ c. ⊎_elim (λ d. first.normal.once r s x y c d i j) (λ d. absurd (no_both r s c d (same_source r s x y i j))) (among_append rows later s b))
      (λ c. ⊎_elim (λ d. absurd (no_both s r d c (same_source s r x y j i))) (λ d. second.normal.once r s x y c d i j) (among_append rows later s b))
      (among_append rows later r a)

  held_first : (r : Row) → Among rows r → (x y : Point) → x.object ≡ r.source.0 → RowsHold (rows ++ later) x y → RowsHold rows x y
  held_first r a x y e h = ⊎_elim (λ b. (h.0, b, h.2)) (λ b. absurd (no_both r h.0 a b (sym e ∙ sym (h.2).source))) (among_append rows later h.0 h.1)

  held_second : (r : Row) → Among later r → (x y : Point) → x.object ≡ r.source.0 → RowsHold (rows ++ later) x y → RowsHold later x y
  held_second r a x y e h = ⊎_elim (λ b. absurd (no_both h.0 r b a ((h.2).source ∙ e))) (λ b. (h.0, b, h.2)) (among_append rows later h.0 h.1)

  appended_normal : NormalRows (RowsHold (rows ++ later)) (rows ++ later)
  appended_normal = record {
    whole = λ x y h. h;
    once = once;
    each = λ r a. ⊎_elim
        (λ b. row_alike (between (RowsHold rows) r.source.0 r.target.0) (between (RowsHold (rows ++ later)) r.source.0 r.target.0)
        (λ t u h. (h.0, append_first rows later h.0 h.1, h.2)) (λ t u h. held_first r b _ _ refl h) r.band (first.normal.each r b))
        (λ b. row_alike (between (RowsHold later) r.source.0 r.target.0) (between (RowsHold (rows ++ later)) r.source.0 r.target.0)
        (λ t u h. (h.0, append_second rows later h.0 h.1, h.2)) (λ t u h. held_second r b _ _ refl h) r.band (second.normal.each r b))
        (among_append rows later r a);
    order = append_ordered RowBefore rows later first.normal.order second.normal.order (λ r s a b. inl (inl (apart r s a b)));
  }

  pub appended : IsRelation (rows ++ later)
  appended = record {
    normal = appended_normal;
    formed = λ r a. ⊎_elim (λ b. first.formed r b) (λ b. second.formed r b) (among_append rows later r a);
  }

  -- also where they were not appended
  pub either_relation : (done : Bool) (all : List Row) → all ≡ if done then (rows ++ later) else rows → IsRelation all
  either_relation true all e = subst IsRelation (sym e) appended
  either_relation false all e = subst IsRelation (sym e) first
