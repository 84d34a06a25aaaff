use Rattle.itpg_session.proofs.Told.{refused_seen}
use Rattle.itpg_session.proofs.taking.write_edited.Goals as goal

pub returns-in_ok-write_refused-in-Some-clause-sees : goal.returns-in_ok-write_refused-in-Some-clause-sees
returns-in_ok-write_refused-in-Some-clause-sees g c = rw (c.in-Some.is) (λ m. refused_seen c.args.form c.args.number _)
