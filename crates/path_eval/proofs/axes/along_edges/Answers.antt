use Rattle.std.proofs.Common.{SFits, w64, to_z-of_z, rules, sym}
use Rattle.relation_rows.specs.Relations.{ItemsHold}
use Rattle.relation_rows.proofs.Identity.{zone_there}
use Rattle.label_scope.specs.Narrowing.{Cut}
use Rattle.path_eval.specs.Axes.{axis_of}
use Rattle.path_eval.proofs.Between.{gives_as, along_cut}
use Rattle.path_eval.proofs.axes.along_edges.Goals as goal

pub returns : goal.returns
returns c =
    let on = c.args.ground.now in
    let from : SFits w64 c.from.result = search rules in
    let to : SFits w64 c.to.result = search rules in
    let zone = simp to_z-of_z at c.diagonal.ensures.zone in
    let stays = zone_there c.diagonal.result c.unwrap-zone.result c.from.result c.to.result on.horizon c.unwrap-zone.ensures zone c.from.ensures.value c.to.ensures.value in
    let same = along_cut on.graph.now on.horizon on.begun c.unwrap-zone.result stays c.args.sources.now c.args.targets.now c.deref.result.now (rw (sym c.deref.ensures.value) at c.in_ok-objects.ensures.within) c.args.direction in
    gives_as (ItemsHold c.in_ok-items.items.items) (Cut on.graph.now (axis_of c.args.direction) c.args.sources.now c.args.targets.now) on.max_rows
    (λ x y. (λ h. (same x y).0 ((c.in_ok-items.ensures x y).0 h), λ h. (c.in_ok-items.ensures x y).1 ((same x y).1 h))) c.from_zones.result c.from_zones.ensures
