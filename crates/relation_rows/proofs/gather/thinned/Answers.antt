use Rattle.std.proofs.Common.{List, subst}
use Rattle.relation_rows.specs.Relations.{Item}
use Rattle.relation_rows.proofs.Sorting.{items_to, items_from}
use Rattle.relation_rows.proofs.Thinning.{HoldAlike}
use Rattle.relation_rows.proofs.gather.thinned.Goals as goal

pub returns : goal.returns
returns c =
    let sorted = c.sort_items.new.items.items in
    let left = subst (λ (v : List Item). HoldAlike v c.in_ok-left.left.items) c.deref.ensures.value c.in_ok-left.ensures in
    λ x y. (
      λ h. items_from c.args.items.items sorted c.sort_items.ensures.same x y ((left x y).0 h),
      λ h. (left x y).1 (items_to c.args.items.items sorted c.sort_items.ensures.same x y h),
    )
