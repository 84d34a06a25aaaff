use Rattle.plan_cache.specs.Nodes.{path_at}
use Rattle.path_eval.proofs.Ending.{body_ready}
use Rattle.path_eval.proofs.Steps.{made_part}
use Rattle.path_eval.proofs.Working.{few_rows, repetition_out}
use Rattle.path_eval.proofs.step.repeated.Goals as goal

pub between-requires-clause-ready : goal.between-requires-clause-ready
between-requires-clause-ready c =
    let on = c.args.ground.now in
    let made = c.args.made.now in
    let r = path_at made.plans.now.nodes c.args.body.0 in
    let u = c.args.within.now in
    let once = c.relation_of.result.now in
    let part = made_part on.graph.now on.max_rows c.requires.good made.plans.now.nodes made.relations.now c.args.body.0 r u u once c.requires.once c.relation_of.ensures in
    body_ready on.graph.now r u on.max_rows once c.args.a.now c.args.b.now c.requires.good part.0 (few_rows on.graph.now on.max_rows c.requires.good r u u once part.0 part.1) c.requires.within

pub returns : goal.returns
returns c =
    let on = c.args.ground.now in
    let made = c.args.made.now in
    let r = path_at made.plans.now.nodes c.args.body.0 in
    let u = c.args.within.now in
    let part = made_part on.graph.now on.max_rows c.requires.good made.plans.now.nodes made.relations.now c.args.body.0 r u u c.relation_of.result.now c.requires.once c.relation_of.ensures in
    repetition_out on.graph.now on.max_rows c.requires.good r c.args.times.now.least c.args.times.now.most c.args.a.now c.args.b.now u c.requires.within part.1 c.between.result c.between.ensures
