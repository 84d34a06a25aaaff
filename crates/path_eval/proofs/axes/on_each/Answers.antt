use Rattle.std.proofs.Common.{[], List, sym, subst}
use Rattle.itpg_base.specs.declared.object_number.ObjNo.{ObjNo}
use Rattle.relation_rows.specs.Relations.{Item, InItem}
use Rattle.relation_rows.proofs.Pushing.{items_more}
use Rattle.path_eval.proofs.Adding.{Added, added_none, added_at, added_all, all_added}
use Rattle.path_eval.proofs.axes.on_each.Goals as goal

pub loop-object-init : goal.loop-object-init
loop-object-init c = subst (λ (v : List Item). Added (λ (o : ObjNo). InItem (o, o, c.args.zone)) [] [] v) (sym c.new-items.ensures.items) (added_none (λ (o : ObjNo). InItem (o, o, c.args.zone)) [])

pub loop-object-preserved : goal.loop-object-preserved
loop-object-preserved c =
    added_at (λ (o : ObjNo). InItem (o, o, c.args.zone)) [] c.args.objects.now c.loop-object.object-index _ c.loop-object-test.true c.loop-object.items.items c.push.new.self.items
    (items_more c.loop-object.items.items c.push.new.self.items _ c.in_ok-push.ensures.items) c.loop-object.invariant

pub returns : goal.returns
returns c =
    all_added (λ (o : ObjNo). InItem (o, o, c.args.zone)) c.args.objects.now c.loop-object.items.items
    (added_all (λ (o : ObjNo). InItem (o, o, c.args.zone)) [] c.args.objects.now c.loop-object.object-index c.loop-object.items.items c.loop-object-test.false c.loop-object.invariant)
