use Rattle.std.proofs.Common.{⊎_elim, List, inr, subst, sym, ◌∙◌}
use Rattle.relation_rows.specs.declared.rows.Row.{Row}
use Rattle.relation_rows.specs.Rows.{RowsHold}
use Rattle.relation_rows.specs.Relations.{ItemsHold}
use Rattle.relation_rows.proofs.Alike.{hold_only, rows_hold}
use Rattle.relation_rows.proofs.fewer.united_beyond.Goals as goal

pub returns : goal.returns
returns c =
    let is = c.deref.ensures.value ∙ c.relation.view_is in
    let normal = c.in_ok-relation.ensures in
    λ x y. (
      λ h. ⊎_elim
          (λ a. absurd ((rw c.new-zones.ensures.items at a).1))
          (λ a. hold_only (ItemsHold c.args.ways.items) _ normal x y (subst (λ (v : List Row). RowsHold v x y) is a))
          ((c.in_ok-push_zones.ensures x y).0 h),
      λ h. (c.in_ok-push_zones.ensures x y).1 (inr (subst (λ (v : List Row). RowsHold v x y) (sym is) (rows_hold (ItemsHold c.args.ways.items) _ normal x y h))),
    )
