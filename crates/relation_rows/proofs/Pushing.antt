-- Rows, zones and items that are pushed one after the other.
use Rattle.std.proofs.Common.{◌≡◌, ◌↔◌, ◌⊎◌, inl, inr, ⊎_elim, ℕ, ◌+◌, ◌<◌, ◌≤◌, ℤ, List, [], ◌∷◌, ◌++◌, length, take, slice_index_or, append_assoc, refl, sym, ◌∙◌, ap, subst}
use Rattle.std.proofs.lemmas.List.{take_more, take_all}
use Rattle.itpg_base.specs.Points.{Point}
use Rattle.zone_core.specs.declared.Bounds.{Bounds}
use Rattle.zone_core.specs.Zone.{Meets}
use Rattle.band_normal.specs.declared.band.Band.{Band}
use Rattle.itpg_base.specs.Lists.{Among}
use Rattle.band_normal.specs.Bands.{InBand}
use Rattle.itpg_base.proofs.Lists.{among_append, append_first, append_second}
use Rattle.relation_rows.specs.declared.rows.Row.{Row}
use Rattle.relation_rows.specs.Rows.{InRow, RowsHold, rows_at}
use Rattle.relation_rows.specs.Relations.{Item, InItem, ItemsHold}

rows_append : (o p : ℕ) (xs : List Band) (b : Band) → let r : Row = record { source = record { 0 = o }; target = record { 0 = p }; band = b } in rows_at o p (xs ++ b ∷ []) ≡ rows_at o p xs ++ r ∷ []
rows_append o p [] b = refl
rows_append o p (x ∷ xs) b = let r : Row = record { source = record { 0 = o }; target = record { 0 = p }; band = x } in ap (λ (v : List Row). r ∷ v) (rows_append o p xs b)

-- one more band as a row
pub one_band : (o p : ℕ) (first now next : List Row) (bs : List Band) (k : ℕ) (b : Band) → let r : Row = record { source = record { 0 = o }; target = record { 0 = p }; band = slice_index_or bs k b } in
    k < length bs → now ≡ first ++ rows_at o p (take k bs) → next ≡ now ++ r ∷ [] → next ≡ first ++ rows_at o p (take (k + 1) bs)
one_band o p first now next bs k b l e f =
    let r : Row = record { source = record { 0 = o }; target = record { 0 = p }; band = slice_index_or bs k b } in
    f ∙ ap (λ (v : List Row). v ++ r ∷ []) e ∙ append_assoc first (rows_at o p (take k bs)) (r ∷ [])
    ∙ ap (λ (v : List Row). first ++ v) (sym (rows_append o p (take k bs) (slice_index_or bs k b)) ∙ ap (rows_at o p) (sym (take_more bs k b l)))

pub no_item : (items : List Item) (x y : Point) → ItemsHold (take 0 items) x y → ⊥
no_item [] x y h = h.1
no_item (i ∷ is) x y h = h.1

-- a list that has one more relation behind it holds more
pub items_more : (items next : List Item) (i : Item) → next ≡ items ++ i ∷ [] → (x y : Point) → ItemsHold next x y ↔ (ItemsHold items x y ⊎ InItem i x y)
items_more items next i e x y = (
  λ h. ⊎_elim
      (λ j. inl (h.0, j, h.2))
      (λ j. ⊎_elim (λ (g : i ≡ h.0). inr (subst (λ (v : Item). InItem v x y) (sym g) h.2)) (λ k. absurd k) j)
      (among_append items (i ∷ []) h.0 (subst (λ (v : List Item). Among v h.0) e h.1)),
  λ h. ⊎_elim
      (λ j. (j.0, subst (λ (v : List Item). Among v j.0) (sym e) (append_first items (i ∷ []) j.0 j.1), j.2))
      (λ j. (i, subst (λ (v : List Item). Among v i) (sym e) (append_second items (i ∷ []) i (inl refl)), j))
      h,
)

pub rows_more : (rows : List Row) (k : ℕ) (d : Row) → k < length rows → (x y : Point) → RowsHold (take (k + 1) rows) x y ↔ (RowsHold (take k rows) x y ⊎ InRow (slice_index_or rows k d) x y)
rows_more rows k d lt x y =
    let r : Row = slice_index_or rows k d in
    let e = take_more rows k d lt in (
      λ h. ⊎_elim
          (λ j. inl (h.0, j, h.2))
          (λ j. ⊎_elim (λ (g : slice_index_or rows k d ≡ h.0). inr (subst (λ (v : Row). InRow v x y) (sym g) h.2)) (λ i. absurd i) j)
          (among_append (take k rows) (r ∷ []) h.0 (subst (λ (v : List Row). Among v h.0) e h.1)),
      λ h. ⊎_elim
          (λ j. (j.0, subst (λ (v : List Row). Among v j.0) (sym e) (append_first (take k rows) (r ∷ []) j.0 j.1), j.2))
          (λ j. (r, subst (λ (v : List Row). Among v r) (sym e) (append_second (take k rows) (r ∷ []) r (inl refl)), j))
          h,
    )

-- one more row's zone
pub zone_more : (items now next : List Item) (rows : List Row) (k : ℕ) (d : Row) (z : Bounds) → k < length rows
    → next ≡ now ++ ((slice_index_or rows k d).source, (slice_index_or rows k d).target, z) ∷ []
    → ((t u : ℤ) → Meets z t u ↔ InBand (slice_index_or rows k d).band t u)
    → ((x y : Point) → ItemsHold now x y ↔ (ItemsHold items x y ⊎ RowsHold (take k rows) x y))
    → (x y : Point) → ItemsHold next x y ↔ (ItemsHold items x y ⊎ RowsHold (take (k + 1) rows) x y)
zone_more items now next rows k d z lt e meets old x y =
    let r : Row = slice_index_or rows k d in
    let more = items_more now next (r.source, r.target, z) e x y in
    let read = rows_more rows k d lt x y in (
      λ h. ⊎_elim
          (λ a. ⊎_elim (λ b. inl b) (λ b. inr (read.1 (inl b))) ((old x y).0 a))
          (λ a. inr (read.1 (inr (record { source = a.source; target = a.target; pair = (meets x.moment y.moment).0 a.pair }))))
          (more.0 h),
      λ h. ⊎_elim
          (λ a. more.1 (inl ((old x y).1 (inl a))))
          (λ a. ⊎_elim
          (λ b. more.1 (inl ((old x y).1 (inr b))))
          (λ b. more.1 (inr (record { source = b.source; target = b.target; pair = (meets x.moment y.moment).1 b.pair })))
          (read.0 a))
          h,
    )

pub zones_start : (items : List Item) (rows : List Row) (x y : Point) → ItemsHold items x y ↔ (ItemsHold items x y ⊎ RowsHold [] x y)
zones_start items rows x y = (λ h. inl h, λ h. ⊎_elim (λ a. a) (λ a. absurd a.1) h)

pub zones_all : (items now : List Item) (rows : List Row) (k : ℕ) → length rows ≤ k
    → ((x y : Point) → ItemsHold now x y ↔ (ItemsHold items x y ⊎ RowsHold (take k rows) x y)) → (x y : Point) → ItemsHold now x y ↔ (ItemsHold items x y ⊎ RowsHold rows x y)
zones_all items now rows k le = subst (λ (v : List Row). (x y : Point) → ItemsHold now x y ↔ (ItemsHold items x y ⊎ RowsHold v x y)) (take_all k rows le)
