use Rattle.std.proofs.Common.{refl, rules}
use Rattle.itpg_session.specs.Lines.{LineIs}
use Rattle.itpg_session.specs.Machine.{Replies}
use Rattle.itpg_session.specs.Steps.{StepsWithin}
use Rattle.itpg_run.proofs.Kept.{stepped_to, within_to}
use Rattle.itpg_run.proofs.reader.Reader.answer.Goals as goal

pub returns-clause-answers : goal.returns-clause-answers
returns-clause-answers g c = stepped_to g.K.Sink _ _ c.law_of_fronts.ensures c.args.self.now _ refl _ _ c.in_ok-seen.ensures.stepped

pub returns-in_err-seen-clause-some : goal.returns-in_err-seen-clause-some
returns-in_err-seen-clause-some g c = λ is.
    let r = c.args.self.now in
    let some : StepsWithin g.K.Sink c.args.out.now c.step.new.out r.form (Replies r.session.limit r.session.machine (LineIs r.form r.line.items)) r.number r.session = search rules in
    within_to g.K.Sink _ _ c.law_of_fronts.ensures r _ refl some
