use Rattle.std.proofs.Common.{◌+◌, take, sym, subst}
use Rattle.std.specs.Global.{Global}
use Rattle.std.specs.declared.vec.Vec.{Vec}
use Rattle.zone_core.specs.declared.Bounds.{Bounds}
use Rattle.relation_rows.proofs.Leaving.{PlacesPushed, no_places, full_place, empty_place, all_places}
use Rattle.relation_rows.proofs.minus.push_places.Goals.{in-Some+in_ok-push, in_default}
use Rattle.relation_rows.proofs.minus.push_places.Goals as goal

pub loop-place-init : goal.loop-place-init
loop-place-init c = no_places c.args.zones.now.items c.args.places.now

pub loop-place-preserved : goal.loop-place-preserved
loop-place-preserved c =
    elim c.match-place.branch [
      | in-Some+in_ok-push w ↦
          (let pushed = w.in_ok-push.ensures.items in
          subst (λ (v : Vec Bounds Global). PlacesPushed c.args.zones.now.items (take (c.loop-place.place-index + 1) c.args.places.now) v.items) (sym w.zones-is)
          (full_place c.args.zones.now.items c.args.places.now c.loop-place.place-index c.place-item.result c.place-item.result c.loop-place-test.true c.place-item.is w.in-Some.zone w.in-Some.is c.loop-place.zones.items w.push.new.self.items pushed c.loop-place.invariant))
      | in_default w ↦
          subst (λ (v : Vec Bounds Global). PlacesPushed c.args.zones.now.items (take (c.loop-place.place-index + 1) c.args.places.now) v.items) (sym w.zones-is)
          (empty_place c.args.zones.now.items c.args.places.now c.loop-place.place-index c.place-item.result c.place-item.result c.loop-place-test.true c.place-item.is w.in_default.is c.loop-place.zones.items c.loop-place.invariant)
    ]

pub returns : goal.returns
returns c = all_places c.args.zones.now.items c.args.places.now c.loop-place.place-index c.loop-place.zones.items c.loop-place-test.false c.loop-place.invariant
