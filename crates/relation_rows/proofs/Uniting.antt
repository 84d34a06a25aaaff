-- Items of the rows of two lists.
use Rattle.std.proofs.Common.{◌≡◌, ◌↔◌, ◌⊎◌, inl, inr, ⊎_elim, List, [], subst}
use Rattle.itpg_base.specs.Points.{Point}
use Rattle.relation_rows.specs.declared.rows.Row.{Row}
use Rattle.relation_rows.specs.Rows.{RowsHold}
use Rattle.relation_rows.specs.Relations.{Item, ItemsHold, EitherHolds}

module _ (first second : List Row) (none one two : List Item) (empty : none ≡ [])
    (more : (x y : Point) → ItemsHold one x y ↔ (ItemsHold none x y ⊎ RowsHold first x y))
    (most : (x y : Point) → ItemsHold two x y ↔ (ItemsHold one x y ⊎ RowsHold second x y)) where
  pub items_either : (x y : Point) → ItemsHold two x y → EitherHolds first second x y
  items_either x y h = ⊎_elim
      (λ a. ⊎_elim (λ b. absurd ((subst (λ (v : List Item). ItemsHold v x y) empty b).1)) (λ b. inl b) ((more x y).0 a))
      (λ a. inr a)
      ((most x y).0 h)

  pub either_items : (x y : Point) → EitherHolds first second x y → ItemsHold two x y
  either_items x y (inl h) = (most x y).1 (inl ((more x y).1 (inr h)))
  either_items x y (inr h) = (most x y).1 (inr h)
