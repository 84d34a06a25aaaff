use Rattle.std.proofs.Common.{List, sym, subst}
use Rattle.zone_core.specs.declared.Bounds.{Bounds}
use Rattle.relation_rows.proofs.Leaving.{AreShared, AreWithout, left_by_parts, left_added}
use Rattle.relation_rows.proofs.minus.+push_rest.Goals as goal

pub returns : goal.returns
returns t c =
    left_by_parts c.in-Some.part c.args.zones.now c.args.cuts.now c.deref.result.now c.deref-2.result.now c.deref-3.result.now c.deref-4.result.now
    (subst (λ (v : List Bounds). AreShared c.args.zones.now c.in-Some.part v) (sym c.deref.ensures.value) c.in_ok-inside.ensures)
    (subst (λ (v : List Bounds). AreShared c.args.cuts.now c.in-Some.part v) (sym c.deref-2.ensures.value) c.in_ok-cuts_inside.ensures)
    (subst (λ (v : List Bounds). AreWithout c.args.zones.now c.in-Some.part v) (sym c.deref-3.ensures.value) c.in_ok-outside.ensures)
    (subst (λ (v : List Bounds). AreWithout c.args.cuts.now c.in-Some.part v) (sym c.deref-4.ensures.value) c.in_ok-cuts_outside.ensures)
    c.args.rest.now.items c.push_rest.new.rest.items c.push_rest-2.new.rest.items c.in_ok-push_rest.ensures c.in_ok-push_rest-2.ensures

pub returns-2 : goal.returns-2
returns-2 t c =
    let extended = c.in_ok-extend_from_slice.ensures.items in
    left_added c.args.zones.now c.args.cuts.now c.args.rest.now.items c.in_ok-left.left.items c.deref-5.result.now c.extend_from_slice.new.self.items c.in_ok-left.ensures c.deref-5.ensures.value extended
