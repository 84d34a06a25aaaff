use Rattle.std.proofs.Common.{refl}
use Rattle.path_ast.specs.Terms.{query_term}
use Rattle.itpg_session.specs.Replies.{reply_of}
use Rattle.itpg_session.proofs.Written.{if_ok}
use Rattle.itpg_session.proofs.Replying.{is_reply}
use Rattle.itpg_session.proofs.asking.reply_alone.Goals as goal

pub returns-in-None-clause-reply : goal.returns-in-None-clause-reply
returns-in-None-clause-reply c =
    if_ok (λ asked h. is_reply c.args.graph.now c.args.max_rows (query_term c.args.query.now) (c.in-None.ensures.none refl) (reply_of asked) h) c.found_alone.result c.found_alone.ensures.found
