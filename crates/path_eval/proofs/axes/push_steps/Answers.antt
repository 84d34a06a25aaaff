use Rattle.path_eval.specs.Axes.{StepTo, StepToOne, StepsFrom, far_end}
use Rattle.path_eval.proofs.Adding.{adds_as}
use Rattle.path_eval.proofs.Leading.{edge_steps, node_steps}
use Rattle.path_eval.proofs.axes.push_steps.Goals as goal

pub returns-in-Some : goal.returns-in-Some
returns-in-Some c =
    let end = c.far_end-end.ensures in
    adds_as (StepTo c.args.targets.now c.args.graph.now c.args.zone c.args.object (far_end c.args.direction c.in-Some.ends)) (StepsFrom c.args.direction c.args.targets.now c.args.graph.now c.args.zone c.args.object) c.args.items.now.items c.push_step.new.items.items
    (edge_steps c.args.graph.now c.requires.good c.args.targets.now c.args.zone c.args.direction c.args.object c.in-Some.ends c.in-Some.ensures.ends) c.push_step.result (rw end at c.push_step.ensures)

pub returns-in-None : goal.returns-in-None
returns-in-None c =
    adds_as (StepToOne c.args.targets.now c.args.graph.now c.args.zone c.args.object c.edges_at-edges.result.now) (StepsFrom c.args.direction c.args.targets.now c.args.graph.now c.args.zone c.args.object) c.args.items.now.items c.push_each.new.items.items
    (node_steps c.args.graph.now c.requires.good c.args.targets.now c.args.zone c.args.direction c.args.object c.edges_at-edges.result.now c.in-None.ensures.ends c.edges_at-edges.ensures) c.push_each.result c.push_each.ensures
