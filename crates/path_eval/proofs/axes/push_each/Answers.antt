use Rattle.path_eval.specs.Axes.{StepTo}
use Rattle.path_eval.proofs.Adding.{added_at, added_all}
use Rattle.path_eval.proofs.axes.push_each.Goals as goal

pub loop-other-preserved : goal.loop-other-preserved
loop-other-preserved c =
    added_at (StepTo c.args.targets.now c.args.graph.now c.args.zone c.args.object) c.args.items.now.items c.args.others.now c.loop-other.other-index _ c.loop-other-test.true
    c.loop-other.items.items c.push_step.new.items.items c.in_ok-push_step.ensures c.loop-other.invariant

pub returns : goal.returns
returns c = added_all (StepTo c.args.targets.now c.args.graph.now c.args.zone c.args.object) c.args.items.now.items c.args.others.now c.loop-other.other-index c.loop-other.items.items c.loop-other-test.false c.loop-other.invariant
