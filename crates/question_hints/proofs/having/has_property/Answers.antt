use Rattle.itpg_base.specs.Graphs.{Val}
use Rattle.question_hints.proofs.Lists.{runs_tell}
use Rattle.question_hints.proofs.having.has_property.Goals as goal

pub returns : goal.returns
returns c = runs_tell (Val c.args.graph.now c.args.o.0 c.args.prop.now) c.value.result c.is_some.result c.is_some.ensures c.value.ensures.some c.value.ensures.none
