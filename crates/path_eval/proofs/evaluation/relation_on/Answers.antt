use Rattle.std.proofs.Common.{sym}
use Rattle.path_eval.proofs.Filled.{keeps_warm}
use Rattle.path_eval.proofs.evaluation.relation_on.Goals as goal

pub returns-in-Some-clause-keeps : goal.returns-in-Some-clause-keeps
returns-in-Some-clause-keeps c = keeps_warm c.args.graph.now c.args.plans.now c.args.no.0 c.in-Some.kept.now.value (sym (rw c.in-Some.is at c.kept.ensures))

pub returns-clause-keeps : goal.returns-clause-keeps
returns-clause-keeps c = c.worked_out.ensures.keeps
