use Rattle.itpg_graph.specs.WithLabel.{StandsWith}
use Rattle.question_hints.proofs.Lists.{numbers_tell}
use Rattle.question_hints.proofs.having.none_has_label.Goals as goal

pub returns : goal.returns
returns c = numbers_tell (StandsWith c.args.graph.now c.args.label.now) c.labelled.result.now c.is_empty.result c.labelled.ensures.numbers c.is_empty.ensures
