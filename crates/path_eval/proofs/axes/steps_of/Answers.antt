use Rattle.std.proofs.Common.{[], List, refl, sym, subst}
use Rattle.itpg_base.proofs.Lists.{among_at}
use Rattle.relation_rows.specs.Relations.{Item}
use Rattle.path_eval.specs.Axes.{StepsFrom}
use Rattle.path_eval.proofs.Adding.{Added, added_none, added_at, added_all, all_added}
use Rattle.path_eval.proofs.axes.steps_of.Goals as goal

pub loop-object-init : goal.loop-object-init
loop-object-init c =
    subst (λ (v : List Item). Added (StepsFrom c.args.direction c.args.targets.now c.args.ground.now.graph.now c.args.zone) [] [] v) (sym c.new-items.ensures.items)
    (added_none (StepsFrom c.args.direction c.args.targets.now c.args.ground.now.graph.now c.args.zone) [])

pub push_steps-requires-clause-stands : goal.push_steps-requires-clause-stands
push_steps-requires-clause-stands c = c.requires.stand _ (_, among_at c.args.objects.now c.loop-object.object-index _ c.loop-object-test.true, refl)

pub loop-object-preserved : goal.loop-object-preserved
loop-object-preserved c =
    added_at (StepsFrom c.args.direction c.args.targets.now c.args.ground.now.graph.now c.args.zone) [] c.args.objects.now c.loop-object.object-index _ c.loop-object-test.true
    c.loop-object.items.items c.push_steps.new.items.items c.in_ok-push_steps.ensures c.loop-object.invariant

pub returns : goal.returns
returns c =
    all_added (StepsFrom c.args.direction c.args.targets.now c.args.ground.now.graph.now c.args.zone) c.args.objects.now c.loop-object.items.items
    (added_all (StepsFrom c.args.direction c.args.targets.now c.args.ground.now.graph.now c.args.zone) [] c.args.objects.now c.loop-object.object-index c.loop-object.items.items c.loop-object-test.false c.loop-object.invariant)
