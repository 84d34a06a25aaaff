use Rattle.std.proofs.Common.{refl, subst}
use Rattle.itpg_edit.specs.Rules.{NoneOf}
use Rattle.path_ast.specs.Terms.{query_term}
use Rattle.itpg_session.specs.Rules.{QueryBreaks, ask_rules}
use Rattle.itpg_session.specs.Replies.{reply_of}
use Rattle.itpg_session.specs.Machine.{Standing}
use Rattle.itpg_session.proofs.Written.{if_ok}
use Rattle.itpg_session.proofs.Replying.{is_reply}
use Rattle.itpg_session.proofs.Planned.{alike_same}
use Rattle.itpg_session.proofs.session.Session.reply_to_query.Goals as goal

pub returns-in-Some-clause-alike : goal.returns-in-Some-clause-alike
returns-in-Some-clause-alike c = alike_same c.args.self.now

pub returns-in-None-clause-reply : goal.returns-in-None-clause-reply
returns-in-None-clause-reply c =
    let q = query_term c.args.query.now in
    let unbroken = subst (λ (s : Standing). NoneOf (QueryBreaks s.machine.graph q) ask_rules) c.self.view_is (c.in-None.ensures.none refl) in
    if_ok (λ asked h. is_reply c.args.self.now.machine.graph c.args.self.now.limit q unbroken (reply_of asked) h) c.found.result c.found.ensures.found
