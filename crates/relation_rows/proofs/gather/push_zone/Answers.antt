use Rattle.std.proofs.Common.{◌≡◌, ◌-◌, List, Some, length, ◌∙◌, sym, subst}
use Rattle.std.specs.Prelude.{slice_get}
use Rattle.zone_core.specs.declared.Bounds.{Bounds}
use Rattle.relation_rows.proofs.ItemZones.{within_listed, zone_listed}
use Rattle.relation_rows.proofs.gather.push_zone.Goals as goal

pub returns : goal.returns
returns c =
    let at : slice_get c.deref.result.now (length c.deref.result.now - 1) ≡ Some c.in-Some.last = sym c.last.ensures.value ∙ sym c.copied-last.ensures ∙ c.in-Some.is in
    within_listed c.args.zones.now.items (length c.deref.result.now - 1) c.in-Some.last c.args.zone.now
    (subst (λ (v : List Bounds). slice_get v (length c.deref.result.now - 1) ≡ Some c.in-Some.last) c.deref.ensures.value at)
    (c.inside.ensures.0 c.if-inside.true)

pub returns-2 : goal.returns-2
returns-2 c =
    let pushed = c.in_ok-push.ensures.items in
    zone_listed c.args.zones.now.items c.push.new.self.items c.args.zone.now pushed
