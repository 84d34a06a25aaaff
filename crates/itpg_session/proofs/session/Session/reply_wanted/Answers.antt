use Rattle.std.proofs.Common.{inl, inr, refl, subst, rules}
use Rattle.std.specs.Prelude.{IfOk}
use Rattle.path_ast.specs.Terms.{QueryTerm, query_term}
use Rattle.match_parser.specs.Reading.{Reads, FaultOf}
use Rattle.match_parser.proofs.InRange.{path_in_range, few_terms, asks_for_one}
use Rattle.itpg_session.specs.Keeping.{KeepsPath}
use Rattle.itpg_session.specs.Replies.{line_reply, Bad}
use Rattle.itpg_session.proofs.Planned.{alike_same}
use Rattle.itpg_session.proofs.Written.{if_ok}
use Rattle.itpg_session.proofs.WantedReplies.{one_wanted}
use Rattle.itpg_session.proofs.session.Session.reply_wanted.Goals as goal

pub reply_wanted_of-requires-clause-in_range : goal.reply_wanted_of-requires-clause-in_range
reply_wanted_of-requires-clause-in_range c =
    path_in_range c.args.text.now (query_term c.in-Ok.query) (subst (λ r. IfOk r (λ q. Reads c.args.text.now (query_term q))) c.in-Ok.is c.read_query.ensures.query)

pub reply_wanted_of-requires-clause-terms : goal.reply_wanted_of-requires-clause-terms
reply_wanted_of-requires-clause-terms c =
    few_terms c.args.text.now (query_term c.in-Ok.query) (subst (λ r. IfOk r (λ q. Reads c.args.text.now (query_term q))) c.in-Ok.is c.read_query.ensures.query)

pub reply_wanted_of-requires-clause-ends : goal.reply_wanted_of-requires-clause-ends
reply_wanted_of-requires-clause-ends c =
    asks_for_one c.args.text.now (query_term c.in-Ok.query) (subst (λ r. IfOk r (λ q. Reads c.args.text.now (query_term q))) c.in-Ok.is c.read_query.ensures.query)

pub returns-in-Ok-clause-only : goal.returns-in-Ok-clause-only
returns-in-Ok-clause-only c =
    let reads = subst (λ r. IfOk r (λ q. Reads c.args.text.now (query_term q))) c.in-Ok.is c.read_query.ensures.query in
    if_ok (λ reply is other there. one_wanted (record {
      one_query = c.law_of_queries.ensures.one;
      one_fault = c.law_of_queries.ensures.first;
      apart = c.law_of_queries.ensures.apart;
      some_query = c.law_of_queries.ensures.some;
    })
    c.args.self.now.machine.graph c.args.self.now.limit c.args.wanted c.args.text.now (line_reply reply) other (inr (query_term c.in-Ok.query, reads, is)) there) c.reply_wanted_of.result c.reply_wanted_of.ensures.reply

pub returns-in-Ok-clause-keeps : goal.returns-in-Ok-clause-keeps
returns-in-Ok-clause-keeps c =
    let reads = subst (λ r. IfOk r (λ q. Reads c.args.text.now (query_term q))) c.in-Ok.is c.read_query.ensures.query in
    if_ok (λ reply keeps all is r also. subst (λ (t : QueryTerm). KeepsPath c.reply_wanted_of.new.self.machine.graph t.path c.reply_wanted_of.new.self.table)
    (c.law_of_queries.ensures.one c.args.text.now (query_term c.in-Ok.query) r reads also) (keeps all is)) c.reply_wanted_of.result c.reply_wanted_of.ensures.keeps

pub returns-in-Err-Bad-clause-only : goal.returns-in-Err-Bad-clause-only
returns-in-Err-Bad-clause-only c =
    let fault : FaultOf c.args.text.now c.in-Err-Bad.code = search rules in
    λ other there. one_wanted (record {
      one_query = c.law_of_queries.ensures.one;
      one_fault = c.law_of_queries.ensures.first;
      apart = c.law_of_queries.ensures.apart;
      some_query = c.law_of_queries.ensures.some;
    })
    c.args.self.now.machine.graph c.args.self.now.limit c.args.wanted c.args.text.now (Bad c.in-Err-Bad.code) other (inl (c.in-Err-Bad.code, fault, refl)) there

pub returns-in-Err-Bad-clause-alike : goal.returns-in-Err-Bad-clause-alike
returns-in-Err-Bad-clause-alike c = alike_same c.args.self.now

pub returns-clause-alike : goal.returns-clause-alike
returns-clause-alike c = alike_same c.args.self.now
