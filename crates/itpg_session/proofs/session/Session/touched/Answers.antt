use Rattle.std.proofs.Common.{subst}
use Rattle.itpg_edit.specs.Rules.{Broken}
use Rattle.itpg_session.specs.Machine.{Standing}
use Rattle.itpg_session.proofs.session.Session.touched.Goals as goal

pub returns-in-Some-clause-broken : goal.returns-in-Some-clause-broken
returns-in-Some-clause-broken c = subst (λ (s : Standing). Broken s.machine.graph c.args.edit.now c.in-Some.rule) c.self.view_is c.in-Some.ensures
