-- Ways that lead from an object back to it, and rows that lead from an object to another.
use Rattle.std.proofs.Common.{◌≡◌, ◌≢◌, ◌↔◌, ◌⊎◌, inl, inr, ⊎_elim, ℕ, ◌+◌, ◌<◌, ◌≤◌, List, [], ◌∷◌, length, take, slice_index_or, Bool, true, false, not, ◌==◌, filter, cond, refl, sym, ◌∙◌, ap, subst, true≢false}
use Rattle.std.proofs.lemmas.List.{take_all}
use Rattle.std.proofs.lemmas.Bool.Decides.{eqb_tells}
use Rattle.itpg_base.specs.Points.{Point}
use Rattle.itpg_base.specs.Lists.{Among, Ordered}
use Rattle.relation_rows.specs.declared.rows.Row.{Row}
use Rattle.relation_rows.specs.Rows.{RowsHold, RowBefore, HasKey, NormalRows, IsRelation}
use Rattle.relation_rows.specs.Relations.{Item, ItemsHold, HasMiddlePoint}
use Rattle.relation_rows.specs.Searching.{AreKept}
use Rattle.relation_rows.specs.Ways.{GoesOn}
use Rattle.relation_rows.proofs.Alike.{relation_of}
use Rattle.relation_rows.proofs.Keeping.{kept_normal}
use Rattle.relation_rows.proofs.Pushing.{rows_more}

-- the rows from where the row arrives to where it departs are all by which it leads back
pub back_by : (row : Row) (second here : List Row) → ((s : Row) → Among here s ↔ (Among second s × HasKey s row.target.0 row.source.0)) → (items next : List Item)
    → ((x y : Point) → ItemsHold next x y ↔ (ItemsHold items x y ⊎ GoesOn row here x y))
    → (x y : Point) → ItemsHold next x y ↔ (ItemsHold items x y ⊎ (GoesOn row second x y × (x.object ≡ y.object)))
back_by row second here are items next pushed x y = (
  λ h. ⊎_elim (λ a. inl a) (λ (b : GoesOn row here x y). inr (back b)) ((pushed x y).0 h),
  λ h. (pushed x y).1 (⊎_elim (λ a. inl a) (λ (b : GoesOn row second x y × (x.object ≡ y.object)). inr (on b.0 b.1)) h),
)
  where
    back : GoesOn row here x y → GoesOn row second x y × (x.object ≡ y.object)
    back b =
        let i = b.1 in
        let s = b.2 in
        let a = (are s.0).0 s.1 in
        let j = s.2 in
        ((b.0, i, (s.0, a.0, j)), sym i.source ∙ sym (a.1).1 ∙ j.target)

    on : GoesOn row second x y → x.object ≡ y.object → GoesOn row here x y
    on b e =
        let i = b.1 in
        let s = b.2 in
        let j = s.2 in
        (b.0, i, (s.0, (are s.0).1 (s.1, (j.source ∙ sym i.target, j.target ∙ sym e ∙ sym i.source)), j))

module _ (rows second : List Row) where
  pub none_back : (items : List Item) → items ≡ [] → (x y : Point) → ItemsHold items x y ↔ (HasMiddlePoint (take 0 rows) second x y × (x.object ≡ y.object))
  none_back items e x y = (
    λ h. absurd (subst (λ (v : List Item). ItemsHold v x y) e h).1,
    λ (h : HasMiddlePoint (take 0 rows) second x y × (x.object ≡ y.object)). absurd (none rows (h.0).1),
  )
    where
      none : (xs : List Row) {v w : Point} → RowsHold (take 0 xs) v w → ⊥
      none [] h = h.1
      none (z ∷ zs) h = h.1

  -- one more row
  pub back_more : (now next : List Item) (k : ℕ) (d : Row) → k < length rows
      → ((x y : Point) → ItemsHold next x y ↔ (ItemsHold now x y ⊎ (GoesOn (slice_index_or rows k d) second x y × (x.object ≡ y.object))))
      → ((x y : Point) → ItemsHold now x y ↔ (HasMiddlePoint (take k rows) second x y × (x.object ≡ y.object)))
      → (x y : Point) → ItemsHold next x y ↔ (HasMiddlePoint (take (k + 1) rows) second x y × (x.object ≡ y.object))
  back_more now next k d lt pushed old x y = (
    λ h. ⊎_elim
        (λ a. let w = (old x y).0 a in let m = w.0 in ((m.0, (rows_more rows k d lt x m.0).1 (inl m.1), m.2), w.1))
        (λ (a : GoesOn (slice_index_or rows k d) second x y × (x.object ≡ y.object)). let m = a.0 in ((m.0, (rows_more rows k d lt x m.0).1 (inr m.1), m.2), a.1))
        ((pushed x y).0 h),
    λ (h : HasMiddlePoint (take (k + 1) rows) second x y × (x.object ≡ y.object)). let m = h.0 in (pushed x y).1 (⊎_elim
        (λ a. inl ((old x y).1 ((m.0, a, m.2), h.1)))
        (λ a. inr ((m.0, a, m.2), h.1))
        ((rows_more rows k d lt x m.0).0 m.1)),
  )

  pub every_back : (items : List Item) (k : ℕ) → length rows ≤ k
      → ((x y : Point) → ItemsHold items x y ↔ (HasMiddlePoint (take k rows) second x y × (x.object ≡ y.object)))
      → (x y : Point) → ItemsHold items x y ↔ (HasMiddlePoint rows second x y × (x.object ≡ y.object))
  every_back items k le = subst (λ (v : List Row). (x y : Point) → ItemsHold items x y ↔ (HasMiddlePoint v second x y × (x.object ≡ y.object))) (take_all k rows le)

-- the row leads from an object to another
abbrev pub leads_apart : Row → Bool
leads_apart r = not (r.source.0 == r.target.0)

apart_so : (o p : ℕ) → not (o == p) ≡ true → o ≢ p
apart_so o p e = ⊎_elim (λ t. absurd (true≢false (sym e ∙ ap not t.0))) (λ t. t.1) (eqb_tells o p)

so_apart : (o p : ℕ) → o ≢ p → not (o == p) ≡ true
so_apart o p n = ⊎_elim (λ t. absurd (n t.1)) (λ t. ap not t.0) (eqb_tells o p)

apart_kept : (rows : List Row) → Ordered RowBefore rows → AreKept (λ (o p : ℕ). o ≢ p) rows (filter leads_apart rows)
apart_kept [] o = record { there = λ r a. a; so = λ r a. absurd a; whole = λ r a s. a; order = tt }
apart_kept (r ∷ rows) o = by_test (apart_kept rows o.1) (leads_apart r) refl
  where
    by_test : AreKept (λ (o p : ℕ). o ≢ p) rows (filter leads_apart rows) → (b : Bool) → leads_apart r ≡ b → AreKept (λ (o p : ℕ). o ≢ p) (r ∷ rows) (cond b (r ∷ filter leads_apart rows) (filter leads_apart rows))
    by_test k true e = record {
      there = λ q a. ⊎_elim (λ g. inl g) (λ b. inr (k.there q b)) a;
      so = λ q a. ⊎_elim (λ (g : r ≡ q). subst (λ (v : Row). v.source.0 ≢ v.target.0) g (apart_so r.source.0 r.target.0 e)) (λ b. k.so q b) a;
      whole = λ q a t. ⊎_elim (λ g. inl g) (λ b. inr (k.whole q b t)) a;
      order = (λ q a. o.0 q (k.there q a), k.order);
    }
    by_test k false e = record {
      there = λ q a. inr (k.there q a);
      so = k.so;
      whole = λ q a t. ⊎_elim (λ (g : r ≡ q). absurd (true≢false (sym (so_apart q.source.0 q.target.0 t) ∙ ap leads_apart (sym g) ∙ e))) (λ b. k.whole q b t) a;
      order = k.order;
    }

module _ (rows kept : List Row) (is : IsRelation rows) (are : kept ≡ filter leads_apart rows) where
  kept_apart : AreKept (λ (o p : ℕ). o ≢ p) rows kept
  kept_apart = subst (λ (v : List Row). AreKept (λ (o p : ℕ). o ≢ p) rows v) (sym are) (apart_kept rows is.normal.order)

  pub apart_normal : NormalRows (λ x y. RowsHold rows x y × (x.object ≢ y.object)) kept
  apart_normal = kept_normal (λ (o p : ℕ). o ≢ p) rows (RowsHold rows) kept is.normal kept_apart

  pub apart_relation : IsRelation kept
  apart_relation = relation_of (λ x y. RowsHold rows x y × (x.object ≢ y.object)) kept apart_normal (λ r a. is.formed r (kept_apart.there r a))
