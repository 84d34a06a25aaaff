-- What is known, and where some rows go on from it.
use Rattle.std.proofs.Common.{◌≡◌, ◌↔◌, ◌⊎◌, inl, inr, ⊎_elim, ℕ, ◌+◌, ◌<◌, ◌≤◌, List, [], ◌∷◌, ◌++◌, length, slice_index_or, take, sym, ◌∙◌, ap, subst}
use Rattle.std.specs.List.Sorted.{IsPermutation}
use Rattle.std.proofs.lemmas.List.{take_more, take_all}
use Rattle.itpg_base.specs.Points.{Point}
use Rattle.itpg_base.specs.Lists.{Among}
use Rattle.relation_rows.specs.declared.rows.Row.{Row}
use Rattle.relation_rows.specs.Rows.{NormalRows, RowsHold}
use Rattle.relation_rows.specs.Relations.{HasMiddlePoint, HoldsOrLeads, InItem, Item, ItemsHold}
use Rattle.relation_rows.proofs.Alike.{hold_only, rows_hold}
use Rattle.relation_rows.proofs.Pushing.{items_more, no_item}
use Rattle.relation_rows.proofs.Sorting.{items_from, items_to}

-- ---- ways without those that rows have

-- the rows have each of the ways, but for those that are left
pub record AreBeyond (ways : List Item) (rows : List Row) (left : List Item) : Type 0 where
  pub there : (x y : Point) → ItemsHold left x y → ItemsHold ways x y
  pub each : (x y : Point) → ItemsHold ways x y → ItemsHold left x y ⊎ RowsHold rows x y

pub no_ways : (ways : List Item) (rows : List Row) (left : List Item) → left ≡ [] → AreBeyond (take 0 ways) rows left
no_ways ways rows left e = subst (λ (v : List Item). AreBeyond (take 0 ways) rows v) (sym e) (record { there = λ x y h. absurd h.1; each = λ x y h. absurd (no_item ways x y h) })

module _ (ways : List Item) (rows : List Row) (k : ℕ) (d : Item) (lt : k < length ways) (way : Item) (read : way ≡ slice_index_or ways k d) where
  read_way : (x y : Point) → ItemsHold (take (k + 1) ways) x y ↔ (ItemsHold (take k ways) x y ⊎ InItem way x y)
  read_way = items_more (take k ways) (take (k + 1) ways) way (take_more ways k d lt ∙ ap (λ (v : Item). take k ways ++ v ∷ []) (sym read))

  pub known_way : (left : List Item) → ((x y : Point) → InItem way x y → RowsHold rows x y) → AreBeyond (take k ways) rows left → AreBeyond (take (k + 1) ways) rows left
  known_way left had so = record {
    there = λ x y h. (read_way x y).1 (inl (so.there x y h));
    each = λ x y h. ⊎_elim (λ a. so.each x y a) (λ a. inr (had x y a)) ((read_way x y).0 h);
  }

  pub new_way : (left next : List Item) → next ≡ left ++ way ∷ [] → AreBeyond (take k ways) rows left → AreBeyond (take (k + 1) ways) rows next
  new_way left next e so = record {
    there = λ x y h. (read_way x y).1 (⊎_elim (λ a. inl (so.there x y a)) (λ a. inr a) ((items_more left next way e x y).0 h));
    each = λ x y h. ⊎_elim
        (λ a. ⊎_elim (λ b. inl ((items_more left next way e x y).1 (inl b))) (λ b. inr b) (so.each x y a))
        (λ a. inl ((items_more left next way e x y).1 (inr a)))
        ((read_way x y).0 h);
  }

pub all_ways : (ways : List Item) (rows : List Row) (k : ℕ) (left : List Item) → length ways ≤ k → AreBeyond (take k ways) rows left → AreBeyond ways rows left
all_ways ways rows k left le = subst (λ (v : List Item). AreBeyond v rows left) (take_all k ways le)

module _ (all rows second sorted read : List Row) (space ways listed fresh next : List Item) (none : space ≡ []) (by : read ≡ sorted) (same : (r : Row) → Among sorted r ↔ Among rows r)
    (are : (x y : Point) → ItemsHold ways x y ↔ (ItemsHold space x y ⊎ HasMiddlePoint read second x y)) (got : listed ≡ ways)
    (there : (x y : Point) → ItemsHold fresh x y → ItemsHold listed x y) (each : (x y : Point) → ItemsHold listed x y → ItemsHold fresh x y ⊎ RowsHold all x y) (order : IsPermutation fresh next) where
  lead : (x y : Point) → ItemsHold ways x y ↔ (ItemsHold [] x y ⊎ HasMiddlePoint sorted second x y)
  lead = subst (λ (v : List Item). (x y : Point) → ItemsHold ways x y ↔ (ItemsHold v x y ⊎ HasMiddlePoint sorted second x y)) none
      (subst (λ (v : List Row). (x y : Point) → ItemsHold ways x y ↔ (ItemsHold space x y ⊎ HasMiddlePoint v second x y)) by are)

  pub fresh_there : (x y : Point) → ItemsHold next x y → HasMiddlePoint rows second x y
  fresh_there x y h =
      let w = subst (λ (v : List Item). ItemsHold v x y) got (there x y (items_from fresh next order x y h)) in
      ⊎_elim (λ a. absurd a.1) (λ a. (a.0, (a.1.0, (same a.1.0).0 a.1.1, a.1.2), a.2)) ((lead x y).0 w)

  pub fresh_each : (x y : Point) → HasMiddlePoint rows second x y → ItemsHold next x y ⊎ RowsHold all x y
  fresh_each x y h =
      let w = subst (λ (v : List Item). ItemsHold v x y) (sym got) ((lead x y).1 (inr (h.0, (h.1.0, (same h.1.0).1 h.1.1, h.1.2), h.2))) in
      ⊎_elim (λ a. inl (items_to fresh next order x y a)) (λ a. inr a) (each x y w)

-- ---- both together

pub joined_holds : (all rows second made : List Row) (fresh : List Item) → ((x y : Point) → ItemsHold fresh x y → HasMiddlePoint rows second x y)
    → ((x y : Point) → HasMiddlePoint rows second x y → ItemsHold fresh x y ⊎ RowsHold all x y) → NormalRows (λ x y. ItemsHold fresh x y ⊎ RowsHold all x y) made
    → (x y : Point) → RowsHold made x y ↔ HoldsOrLeads all rows second x y
joined_holds all rows second made fresh there each normal x y = (
  λ h. ⊎_elim (λ a. inr (there x y a)) (λ a. inl a) (hold_only _ made normal x y h),
  λ h. rows_hold _ made normal x y (⊎_elim (λ a. inr a) (λ a. each x y a) h),
)
