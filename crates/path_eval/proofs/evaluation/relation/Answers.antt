use Rattle.std.proofs.Common.{subst}
use Rattle.std.specs.Prelude.{IfOk}
use Rattle.itpg_base.specs.Graphs.{Graph}
use Rattle.path_eval.specs.Keeping.{KeepsReached}
use Rattle.path_eval.proofs.evaluation.relation.Goals as goal

pub returns-clause-keeps : goal.returns-clause-keeps
returns-clause-keeps c = subst (λ (v : Graph). IfOk c.relation_on.result (λ _. KeepsReached v c.args.plans.now c.args.no.0 c.relation_on.new.plans)) c.whole.ensures c.relation_on.ensures.keeps
