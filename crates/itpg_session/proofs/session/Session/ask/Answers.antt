use Rattle.itpg_session.specs.Replies.{reply_of}
use Rattle.itpg_session.proofs.Written.{if_ok}
use Rattle.itpg_session.proofs.session.Session.ask.Goals as goal

pub returns-clause-only : goal.returns-clause-only
returns-clause-only c =
    if_ok (λ asked is other there. c.law_of_asked.ensures.one c.args.self.now.machine.graph c.args.self.now.limit c.args.text.now (reply_of asked) other is there) c.reply_to.result c.reply_to.ensures.reply
