use Rattle.std.proofs.Common.{refl, ap, ◌||◌}
use Rattle.itpg_session.specs.Replies.{reply_of}
use Rattle.itpg_run.proofs.Underway.{takes_question, takes_some}
use Rattle.itpg_run.proofs.trial.Running.ask.Goals as goal

pub returns-in_err-write-clause-some : goal.returns-in_err-write-clause-some
returns-in_err-write-clause-some g c = λ is line asks.
    takes_some (record { one_asked = c.law_of_asked.ensures.one; some_asked = c.law_of_asked.ensures.some; one = c.law_of_replies.ensures.one; some = c.law_of_replies.ensures.some; good = c.law_of_replies.ensures.good; opening = c.law_of_replies.ensures.opening })
    _ _ c.args.self.now line c.args.query.now c.told.result (reply_of c.in_ok-reply.reply) asks c.in_ok-reply.ensures.reply c.told.ensures c.in_err-write.ensures.some

pub returns-clause-takes : goal.returns-clause-takes
returns-clause-takes g c = λ line asks.
    takes_question _ _ c.args.self.now _ line c.args.query.now c.told.result (reply_of c.in_ok-reply.reply) asks c.in_ok-reply.ensures.reply c.told.ensures c.in_ok-write.ensures.written (record { machine = c.in_ok-reply.ensures.alike.machine; limit = c.in_ok-reply.ensures.alike.limit }) refl
    (ap (λ b. c.args.self.now.wide || b) (c.is_wide.ensures c.args.self.now.question))
