use Rattle.std.proofs.Common.{inr, refl}
use Rattle.itpg_edit.specs.Rules.{Breaks, rules_of}
use Rattle.itpg_edit.proofs.FirstOf.{first_or_unbroken}
use Rattle.itpg_session.specs.Replies.{Refused}
use Rattle.itpg_session.proofs.Answering.{edit_refused}
use Rattle.itpg_session.proofs.Told.{said}
use Rattle.itpg_session.proofs.session.Session.edit.Goals as goal

pub returns-in-Err-clause-decides : goal.returns-in-Err-clause-decides
returns-in-Err-clause-decides c = said c.args.self.now (Refused c.in-Err.rule) (edit_refused c.args.self.now.limit c.args.self.now.machine c.args.edit.now c.in-Err.rule c.in-Err.ensures.broken _ refl)

pub returns-in-Err-clause-forgets : goal.returns-in-Err-clause-forgets
returns-in-Err-clause-forgets c = λ unbroken. absurd (first_or_unbroken (Breaks c.args.self.now.machine.graph c.args.edit.now) (rules_of c.args.edit.now) c.in-Err.rule c.in-Err.ensures.broken unbroken)

pub returns-in-Err-clause-spares : goal.returns-in-Err-clause-spares
returns-in-Err-clause-spares c = λ unbroken. absurd (first_or_unbroken (Breaks c.args.self.now.machine.graph c.args.edit.now) (rules_of c.args.edit.now) c.in-Err.rule c.in-Err.ensures.broken unbroken)

pub returns-in-Err-clause-table : goal.returns-in-Err-clause-table
returns-in-Err-clause-table c = inr refl

pub returns-in-Err-clause-follows : goal.returns-in-Err-clause-follows
returns-in-Err-clause-follows c = inr refl
