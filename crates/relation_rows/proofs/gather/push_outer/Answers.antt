use Rattle.std.proofs.Common.{◌≡◌, ◌-◌, List, Some, length, ◌∙◌, sym, subst}
use Rattle.std.specs.Prelude.{slice_get}
use Rattle.relation_rows.specs.Relations.{Item}
use Rattle.relation_rows.proofs.Pushing.{items_more}
use Rattle.relation_rows.proofs.Thinning.{inside_had}
use Rattle.relation_rows.proofs.gather.push_outer.Goals as goal

pub returns : goal.returns
returns c =
    let at : slice_get c.deref.result.now (length c.deref.result.now - 1) ≡ Some c.in-Some.last = sym c.last.ensures.value ∙ sym c.copied-last.ensures ∙ c.in-Some.is in
    inside_had c.args.items.now.items (length c.deref.result.now - 1) c.in-Some.last c.args.item.now
    (subst (λ (v : List Item). slice_get v (length c.deref.result.now - 1) ≡ Some c.in-Some.last) c.deref.ensures.value at)
    (c.is_inside.ensures c.if-is_inside.true)

pub returns-2 : goal.returns-2
returns-2 c = items_more c.args.items.now.items c.push.new.self.items c.args.item.now c.in_ok-push.ensures.items
