-- Rows that are kept for their source and target are normal for what leads between these.
use Rattle.std.proofs.Common.{◌≡◌, ◌⊎◌, inl, inr, ⊎_elim, ℕ, zero, suc, ◌+◌, ◌<◌, ◌≤◌, List, [], ◌∷◌, ◌++◌, length, take, slice_index_or, refl, sym, subst}
use Rattle.std.proofs.lemmas.List.{take_all}
use Rattle.itpg_base.specs.Decided.{Decided}
use Rattle.itpg_base.specs.Points.{Relation}
use Rattle.itpg_base.specs.declared.object_number.ObjNo.{ObjNo}
use Rattle.itpg_base.specs.Lists.{Among, Ordered}
use Rattle.itpg_base.proofs.Lists.{among_append, append_first, append_second, append_ordered, ordered_at}
use Rattle.relation_rows.specs.declared.rows.Row.{Row}
use Rattle.relation_rows.specs.Rows.{between, RowsHold, RowBefore, NormalRows, IsRelation}
use Rattle.relation_rows.specs.Relations.{IsOneOf, IsBetween}
use Rattle.relation_rows.specs.Searching.{AreKept}
use Rattle.relation_rows.proofs.Alike.{row_alike, rows_alike, relation_of}
use Rattle.relation_rows.proofs.Partitions.{among_more, more_among}

-- some rows kept of those that were read
pub record KeptSoFar (So : ℕ → ℕ → Type 0) (rows : List Row) (i : ℕ) (kept : List Row) : Type 0 where
  pub there : (r : Row) → Among kept r → Among (take i rows) r
  pub so : (r : Row) → Among kept r → So r.source.0 r.target.0
  pub whole : (r : Row) → Among (take i rows) r → So r.source.0 r.target.0 → Among kept r
  pub order : Ordered RowBefore kept

module _ (So : ℕ → ℕ → Type 0) (rows : List Row) where
  pub none_kept : KeptSoFar So rows 0 []
  none_kept = record { there = λ r a. absurd a; so = λ r a. absurd a; whole = λ r a s. absurd (none rows r a); order = tt }
    where
      none : (xs : List Row) (r : Row) → Among (take 0 xs) r → ⊥
      none [] r a = a
      none (x ∷ xs) r a = a

  module _ (order : Ordered RowBefore rows) (i : ℕ) (d : Row) (lt : i < length rows) (kept : List Row) (k : KeptSoFar So rows i kept) where
    pub keep_one : (next : List Row) → next ≡ kept ++ slice_index_or rows i d ∷ [] → So (slice_index_or rows i d).source.0 (slice_index_or rows i d).target.0 → KeptSoFar So rows (i + 1) next
    keep_one next e s = subst (λ (v : List Row). KeptSoFar So rows (i + 1) v) (sym e) (record {
      there = λ r a. ⊎_elim
          (λ b. more_among rows i (slice_index_or rows i d) r lt (self_read rows i d) (inl (k.there r b)))
          (λ b. ⊎_elim (λ (g : slice_index_or rows i d ≡ r). more_among rows i (slice_index_or rows i d) r lt (self_read rows i d) (inr g)) (λ j. absurd j) b)
          (among_append kept (slice_index_or rows i d ∷ []) r a);
      so = λ r a. ⊎_elim (λ b. k.so r b) (λ b. ⊎_elim (λ (g : slice_index_or rows i d ≡ r). subst (λ (v : Row). So v.source.0 v.target.0) g s) (λ j. absurd j) b) (among_append kept (slice_index_or rows i d ∷ []) r a);
      whole = λ r a t. ⊎_elim
          (λ b. append_first kept (slice_index_or rows i d ∷ []) r (k.whole r b t))
          (λ (g : slice_index_or rows i d ≡ r). append_second kept (slice_index_or rows i d ∷ []) r (inl g))
          (among_more rows i (slice_index_or rows i d) r lt (self_read rows i d) a);
      order = append_ordered RowBefore kept (slice_index_or rows i d ∷ []) k.order (λ r a. absurd a, tt)
          (λ r s a b. ⊎_elim (λ (g : slice_index_or rows i d ≡ s). subst (λ (v : Row). RowBefore r v) g (ordered_at RowBefore rows i d order lt r (k.there r a))) (λ j. absurd j) b);
    })
      where
        self_read : (xs : List Row) (j : ℕ) (e : Row) → slice_index_or xs j e ≡ slice_index_or xs j (slice_index_or xs j e)
        self_read [] j e = refl
        self_read (x ∷ xs) zero e = refl
        self_read (x ∷ xs) (suc j) e = self_read xs j e

    pub leave_one : (So (slice_index_or rows i d).source.0 (slice_index_or rows i d).target.0 → ⊥) → KeptSoFar So rows (i + 1) kept
    leave_one not = record {
      there = λ r a. more r (inl (k.there r a));
      so = k.so;
      whole = λ r a t. ⊎_elim (λ b. k.whole r b t) (λ (g : slice_index_or rows i d ≡ r). absurd (not (subst (λ (v : Row). So v.source.0 v.target.0) (sym g) t))) (less r a);
      order = k.order;
    }
      where
        self_read : (xs : List Row) (j : ℕ) (e : Row) → slice_index_or xs j e ≡ slice_index_or xs j (slice_index_or xs j e)
        self_read [] j e = refl
        self_read (x ∷ xs) zero e = refl
        self_read (x ∷ xs) (suc j) e = self_read xs j e

        more : (r : Row) → Among (take i rows) r ⊎ (slice_index_or rows i d ≡ r) → Among (take (i + 1) rows) r
        more r = more_among rows i (slice_index_or rows i d) r lt (self_read rows i d)

        less : (r : Row) → Among (take (i + 1) rows) r → Among (take i rows) r ⊎ (slice_index_or rows i d ≡ r)
        less r = among_more rows i (slice_index_or rows i d) r lt (self_read rows i d)

  pub all_kept : (i : ℕ) (kept : List Row) → length rows ≤ i → KeptSoFar So rows i kept → AreKept So rows kept
  all_kept i kept le k =
      let e = take_all i rows le in
      record {
        there = λ r a. subst (λ (v : List Row). Among v r) e (k.there r a);
        so = k.so;
        whole = λ r a s. k.whole r (subst (λ (v : List Row). Among v r) (sym e) a) s;
        order = k.order;
      }

  pub kept_normal : (R : Relation) (kept : List Row) → NormalRows R rows → AreKept So rows kept → NormalRows (λ x y. R x y × So x.object y.object) kept
  kept_normal R kept n k = record {
    whole = λ x y h.
        let w = n.whole x y h.0 in
        let i = w.2 in
        (w.0, k.whole w.0 w.1 (subst (λ (v : ℕ). So v w.0.target.0) (sym i.source) (subst (λ (v : ℕ). So x.object v) (sym i.target) h.1)), w.2);
    once = λ r s x y a b. n.once r s x y (k.there r a) (k.there s b);
    each = λ r a. row_alike (between R r.source.0 r.target.0) (λ t u. between R r.source.0 r.target.0 t u × So r.source.0 r.target.0) (λ t u h. (h, k.so r a)) (λ t u h. h.0) r.band (n.each r (k.there r a));
    order = k.order;
  }

-- of the rows in order, some are kept for their source and target
pub kept_exists : (So : ℕ → ℕ → Type 0) → ((o p : ℕ) → Decided (So o p)) → (rows : List Row) → Ordered RowBefore rows → (kept : List Row) × AreKept So rows kept
kept_exists So decide [] o = ([], record { there = λ r a. a; so = λ r a. absurd a; whole = λ r a s. a; order = tt })
kept_exists So decide (r ∷ rows) o =
    let rest = kept_exists So decide rows o.1 in
    let k = rest.1 in
    elim (decide r.source.0 r.target.0) [
      | inl s ↦ (
        r ∷ rest.0,
        record {
          there = λ q a. ⊎_elim (λ e. inl e) (λ b. inr (k.there q b)) a;
          so = λ q a. ⊎_elim (λ (e : r ≡ q). subst (λ (v : Row). So v.source.0 v.target.0) e s) (λ b. k.so q b) a;
          whole = λ q a t. ⊎_elim (λ e. inl e) (λ b. inr (k.whole q b t)) a;
          order = (λ q a. o.0 q (k.there q a), k.order);
        },
      )
      | inr not ↦ (
        rest.0,
        record {
          there = λ q a. inr (k.there q a);
          so = k.so;
          whole = λ q a t. ⊎_elim (λ (e : r ≡ q). absurd (not (subst (λ (v : Row). So v.source.0 v.target.0) (sym e) t))) (λ b. k.whole q b t) a;
          order = k.order;
        },
      )
    ]

pub between_normal : (rows kept : List Row) (sources targets : List ObjNo) → IsRelation rows → AreKept (λ (o p : ℕ). IsOneOf sources o × IsOneOf targets p) rows kept → NormalRows (IsBetween rows sources targets) kept
between_normal rows kept sources targets r k =
    let n = kept_normal (λ (o p : ℕ). IsOneOf sources o × IsOneOf targets p) rows (RowsHold rows) kept r.normal k in
    rows_alike (λ x y. RowsHold rows x y × (IsOneOf sources x.object × IsOneOf targets y.object)) (IsBetween rows sources targets)
    (λ x y h. record { held = h.0; source = h.1.0; target = h.1.1 }) (λ x y h. (h.held, (h.source, h.target))) kept n

pub between_relation : (rows kept : List Row) (sources targets : List ObjNo) → IsRelation rows → AreKept (λ (o p : ℕ). IsOneOf sources o × IsOneOf targets p) rows kept → IsRelation kept
between_relation rows kept sources targets r k =
    relation_of (IsBetween rows sources targets) kept (between_normal rows kept sources targets r k) (λ s a. r.formed s (k.there s a))
