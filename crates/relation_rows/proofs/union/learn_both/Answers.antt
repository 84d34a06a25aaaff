use Rattle.std.proofs.Common.{List, subst, map}
use Rattle.band_normal.specs.Normal.{Normal}
use Rattle.band_normal.specs.Zones.{SomeMeets}
use Rattle.relation_rows.specs.Relations.{Item}
use Rattle.relation_rows.proofs.Uniting.{items_either, either_items}
use Rattle.relation_rows.proofs.Merged.{both_normal}
use Rattle.relation_rows.proofs.Sorting.{items_to, items_from}
use Rattle.relation_rows.proofs.union.learn_both.Goals as goal

pub returns-clause-normal : goal.returns-clause-normal
returns-clause-normal c =
    both_normal c.args.here.now c.args.there.now c.sort_items.new.items.items
    (λ x y. (
      λ h. items_either c.args.here.now c.args.there.now c.new-items.result.items c.push_zones.new.items.items c.push_zones-2.new.items.items c.new-items.ensures.items c.in_ok-push_zones.ensures c.in_ok-push_zones-2.ensures x y
          (items_from c.push_zones-2.new.items.items c.sort_items.new.items.items c.sort_items.ensures.same x y h),
      λ h. items_to c.push_zones-2.new.items.items c.sort_items.new.items.items c.sort_items.ensures.same x y
          (either_items c.args.here.now c.args.there.now c.new-items.result.items c.push_zones.new.items.items c.push_zones-2.new.items.items c.new-items.ensures.items c.in_ok-push_zones.ensures c.in_ok-push_zones-2.ensures x y h),
    ))
    c.learn.new.self
    (subst (λ (v : List Item). Normal (SomeMeets (map (λ (i : Item). i.2) v)) c.learn.new.self) c.deref.ensures.value c.in_ok-learn.ensures.normal)
