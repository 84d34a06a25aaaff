use Rattle.std.proofs.Common.{sym}
use Rattle.plan_cache.specs.Operations.{part_term}
use Rattle.plan_cache.specs.Nodes.{test_read_back}
use Rattle.path_eval.proofs.Steps.{conditions_fit}
use Rattle.path_eval.proofs.Working.{test_out}
use Rattle.path_eval.proofs.step.test_relation.Goals as goal

pub returns : goal.returns
returns c =
    let on = c.args.ground.now in
    let made = c.args.made.now in
    let part = part_term c.args.test.now in
    let fit = conditions_fit on.graph.now on.max_rows c.requires.good made.plans.now.nodes made.relations.now part c.args.a.now c.requires.parts in
    test_out on.graph.now on.max_rows c.requires.good (test_read_back made.plans.now.nodes part) c.args.a.now c.args.b.now c.deref.result.now (rw (sym c.deref.ensures.value) at c.in_ok-objects.ensures.within)
    c.in_ok-marks.marks c.in_ok-marks.ensures fit c.as_relation.result c.as_relation.ensures
