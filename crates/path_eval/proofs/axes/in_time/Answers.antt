use Rattle.std.proofs.Common.{SFits, w64, to_z-of_z, rules, sym}
use Rattle.relation_rows.specs.Relations.{ItemsHold}
use Rattle.label_scope.specs.Narrowing.{Cut}
use Rattle.path_eval.specs.Axes.{axis_in_time}
use Rattle.path_eval.proofs.Between.{none_few, gives_as, moves_there, moves_nowhere, in_time_cut, in_no_time}
use Rattle.path_eval.proofs.axes.in_time.Goals as goal

pub returns-in-Some : goal.returns-in-Some
returns-in-Some c =
    let on = c.args.ground.now in
    let from : SFits w64 c.from.result = search rules in
    let to : SFits w64 c.to.result = search rules in
    let step : SFits w64 c.args.step = search rules in
    let zone = simp to_z-of_z at c.shift.ensures in
    let moves = moves_there c.shift.result c.in-Some.zone c.args.step c.from.result c.to.result on.horizon c.in-Some.is zone c.from.ensures.value c.to.ensures.value in
    let same = in_time_cut on.graph.now on.horizon on.begun c.args.step c.requires c.args.sources.now c.args.targets.now c.deref.result.now (rw (sym c.deref.ensures.value) at c.in_ok-objects.ensures.within) c.in-Some.zone moves in
    gives_as (ItemsHold c.in_ok-on_each-in-Some.field-0.items) (Cut on.graph.now (axis_in_time c.args.step) c.args.sources.now c.args.targets.now) on.max_rows
    (λ x y. (λ h. (same x y).0 ((c.in_ok-on_each-in-Some.ensures x y).0 h), λ h. (c.in_ok-on_each-in-Some.ensures x y).1 ((same x y).1 h))) c.from_zones.result c.from_zones.ensures

pub returns : goal.returns
returns c =
    let on = c.args.ground.now in
    let from : SFits w64 c.from.result = search rules in
    let to : SFits w64 c.to.result = search rules in
    let step : SFits w64 c.args.step = search rules in
    let zone = simp to_z-of_z at c.shift.ensures in
    let none = moves_nowhere c.shift.result c.args.step c.from.result c.to.result on.horizon c.in-None.is zone c.from.ensures.value c.to.ensures.value in
    rw c.empty.ensures (in_no_time on.graph.now on.horizon on.begun c.args.step c.requires c.args.sources.now c.args.targets.now c.in_ok-objects.objects.items c.in_ok-objects.ensures.within none, none_few on.max_rows)
