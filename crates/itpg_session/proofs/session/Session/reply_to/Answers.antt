use Rattle.std.proofs.Common.{subst}
use Rattle.std.specs.Prelude.{IfOk}
use Rattle.path_ast.specs.Terms.{query_term}
use Rattle.match_parser.specs.Reading.{Reads}
use Rattle.match_parser.proofs.InRange.{path_in_range, few_terms, asks_for_one}
use Rattle.itpg_session.proofs.Planned.{alike_same}
use Rattle.itpg_session.proofs.Adding.{keeps_read}
use Rattle.itpg_session.proofs.Written.{if_ok}
use Rattle.itpg_session.proofs.session.Session.reply_to.Goals as goal

pub reply_to_query-requires-clause-in_range : goal.reply_to_query-requires-clause-in_range
reply_to_query-requires-clause-in_range c =
    path_in_range c.args.text.now (query_term c.in-Ok.query) (subst (λ r. IfOk r (λ q. Reads c.args.text.now (query_term q))) c.in-Ok.is c.read_query.ensures.query)

pub reply_to_query-requires-clause-terms : goal.reply_to_query-requires-clause-terms
reply_to_query-requires-clause-terms c =
    few_terms c.args.text.now (query_term c.in-Ok.query) (subst (λ r. IfOk r (λ q. Reads c.args.text.now (query_term q))) c.in-Ok.is c.read_query.ensures.query)

pub reply_to_query-requires-clause-ends : goal.reply_to_query-requires-clause-ends
reply_to_query-requires-clause-ends c =
    asks_for_one c.args.text.now (query_term c.in-Ok.query) (subst (λ r. IfOk r (λ q. Reads c.args.text.now (query_term q))) c.in-Ok.is c.read_query.ensures.query)

pub returns-in-Err-Bad-clause-alike : goal.returns-in-Err-Bad-clause-alike
returns-in-Err-Bad-clause-alike c = alike_same c.args.self.now

pub returns-clause-alike : goal.returns-clause-alike
returns-clause-alike c = alike_same c.args.self.now

pub returns-in-Ok-clause-keeps : goal.returns-in-Ok-clause-keeps
returns-in-Ok-clause-keeps c =
    let reads = subst (λ r. IfOk r (λ q. Reads c.args.text.now (query_term q))) c.in-Ok.is c.read_query.ensures.query in
    if_ok (λ asked keeps. keeps_read c.reply_to_query.new.self.machine.graph c.args.text.now c.reply_to_query.new.self.table c.law_of_queries.ensures.one (query_term c.in-Ok.query) reads asked keeps)
    c.reply_to_query.result c.reply_to_query.ensures.keeps
