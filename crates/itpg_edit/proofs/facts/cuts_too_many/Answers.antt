use Rattle.std.proofs.Common.{arith}
use Rattle.std.proofs.lemmas.Grind.{common_steps}
use Rattle.itpg_graph.proofs.Asked.{cut_fits}
use Rattle.itpg_edit.proofs.facts.cuts_too_many.Goals as goal

pub returns-clause-few : goal.returns-clause-few
returns-clause-few c = λ is.
    cut_fits c.args.graph.now c.args.site.now.object.0 c.args.site.now.span c.widest_cut.result c.widest_cut.ensures.most (grind (arith, common_steps))
