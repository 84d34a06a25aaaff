use Rattle.itpg_session.proofs.Told.{rows_seen, wide_seen}
use Rattle.itpg_session.proofs.reply.seen_of_found.Goals as goal

pub returns-in-Some : goal.returns-in-Some
returns-in-Some c = rw (c.in-Some.is) (λ form g number. rows_seen form g number _)

pub returns-in-None : goal.returns-in-None
returns-in-None c = rw (c.in-None.is) (λ form g number. wide_seen form number)
