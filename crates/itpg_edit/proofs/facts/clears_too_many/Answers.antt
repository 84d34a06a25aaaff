use Rattle.std.proofs.Common.{arith, refl}
use Rattle.std.proofs.lemmas.Grind.{common_steps}
use Rattle.itpg_graph.proofs.Asked.{clear_fits}
use Rattle.itpg_edit.proofs.Families.{clears_many, clears_none}
use Rattle.itpg_edit.proofs.facts.clears_too_many.Goals as goal

pub returns-in-Some-clause-few : goal.returns-in-Some-clause-few
returns-in-Some-clause-few c = λ is.
    clear_fits c.args.graph.now c.args.site.now.object.0 c.args.prop.now c.in-Some.values.now c.in-Some.ensures.some c.args.site.now.span c.count_clear.result c.count_clear.ensures (grind (arith, common_steps))

pub returns-in-Some-clause-many : goal.returns-in-Some-clause-many
returns-in-Some-clause-many c = λ is.
    clears_many c.args.graph.now c.args.site.now.object.0 c.args.prop.now c.in-Some.values.now c.args.site.now.span c.in-Some.ensures.some c.count_clear.result c.count_clear.ensures (grind (arith, common_steps))

pub returns-in-None-clause-few : goal.returns-in-None-clause-few
returns-in-None-clause-few c = λ is. clears_none c.args.graph.now c.args.site.now.object.0 c.args.prop.now c.args.site.now.span (c.in-None.ensures.none.0 refl)
