use Rattle.std.proofs.Common.{inl, inr, refl, subst}
use Rattle.match_parser.specs.Answers.{IsQueryFault}
use Rattle.itpg_session.specs.Replies.{Bad}
use Rattle.path_ast.specs.Terms.{query_term}
use Rattle.match_parser.proofs.InRange.{path_in_range, few_terms, asks_for_one}
use Rattle.itpg_session.proofs.Answering.{watch_read, watch_bad}
use Rattle.itpg_session.proofs.Planned.{alike_same}
use Rattle.itpg_session.proofs.Told.{decides_as, said}
use Rattle.itpg_session.proofs.session.Session.watch.Goals as goal

pub watch_query-requires-clause-in_range : goal.watch_query-requires-clause-in_range
watch_query-requires-clause-in_range c = path_in_range c.args.text.now (query_term c.in-Ok.query) c.in-Ok.ensures.query

pub watch_query-requires-clause-terms : goal.watch_query-requires-clause-terms
watch_query-requires-clause-terms c = few_terms c.args.text.now (query_term c.in-Ok.query) c.in-Ok.ensures.query

pub watch_query-requires-clause-ends : goal.watch_query-requires-clause-ends
watch_query-requires-clause-ends c = asks_for_one c.args.text.now (query_term c.in-Ok.query) c.in-Ok.ensures.query

pub returns-in-Ok-clause-decides : goal.returns-in-Ok-clause-decides
returns-in-Ok-clause-decides c =
    decides_as c.args.self.now c.watch_query.new.self (watch_read c.args.self.now.machine c.args.name c.args.text.now (query_term c.in-Ok.query) c.in-Ok.ensures.query) (λ u. u) c.watch_query.result c.watch_query.ensures.decides

pub returns-in-Err-Memory-clause-decides : goal.returns-in-Err-Memory-clause-decides
returns-in-Err-Memory-clause-decides c = (alike_same c.args.self.now, tt)

pub returns-in-Err-Bad-clause-decides : goal.returns-in-Err-Bad-clause-decides
returns-in-Err-Bad-clause-decides c =
    let fault = subst (IsQueryFault c.args.text.now) c.in-Err-Bad.field-0-is c.in-Err-Bad.ensures.fault in
    rw (c.in-Err-Bad.field-0-is) (said c.args.self.now (Bad c.in-Err-Bad.code) (watch_bad c.args.self.now.machine c.args.name c.args.text.now c.in-Err-Bad.code fault _ refl))

pub returns-in-Ok-clause-adds : goal.returns-in-Ok-clause-adds
returns-in-Ok-clause-adds c = inl (query_term c.in-Ok.query, c.in-Ok.ensures.query, c.watch_query.ensures.adds)

pub returns-in-Err-Bad-clause-adds : goal.returns-in-Err-Bad-clause-adds
returns-in-Err-Bad-clause-adds c = inr refl

pub returns-in-Err-Memory-clause-adds : goal.returns-in-Err-Memory-clause-adds
returns-in-Err-Memory-clause-adds c = inr refl
