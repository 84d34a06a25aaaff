use Rattle.itpg_session.proofs.Told.{rows_seen, pin_seen, counts_seen, bad_seen, refused_seen, wide_seen}
use Rattle.itpg_session.proofs.reply.Reply.seen.Goals as goal

pub returns-in-Rows : goal.returns-in-Rows
returns-in-Rows c = rw (c.in-Rows.is) (λ form m number. rows_seen form m.graph number _)

pub returns-in-Bad : goal.returns-in-Bad
returns-in-Bad c = rw (c.in-Bad.is) (λ form g number. bad_seen form number _)

pub returns-in-Refused : goal.returns-in-Refused
returns-in-Refused c = rw (c.in-Refused.is) (λ form g number. refused_seen form number _)

pub returns-in-Wide : goal.returns-in-Wide
returns-in-Wide c = rw (c.in-Wide.is) (λ form g number. wide_seen form number)

pub returns-in-Counted : goal.returns-in-Counted
returns-in-Counted c = rw (c.in-Counted.is) (λ form g number. counts_seen form number _)

pub returns-in-OfPin : goal.returns-in-OfPin
returns-in-OfPin c = rw (c.in-OfPin.is) (λ form m number. pin_seen form m number _ _)
