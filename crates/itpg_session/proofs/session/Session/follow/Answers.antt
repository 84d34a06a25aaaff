use Rattle.std.proofs.Common.{inl, inr, refl, subst, ⊎_elim}
use Rattle.match_parser.specs.Answers.{IsQueryFault}
use Rattle.match_parser.proofs.InRange.{path_in_range, few_terms}
use Rattle.path_ast.specs.Terms.{query_term}
use Rattle.itpg_session.specs.Replies.{Bad}
use Rattle.itpg_session.proofs.Planned.{alike_same}
use Rattle.itpg_session.proofs.Told.{decides_as, said}
use Rattle.itpg_session.proofs.session.Session.follow.Goals as goal

pub follow_query-requires-clause-in_range : goal.follow_query-requires-clause-in_range
follow_query-requires-clause-in_range c = path_in_range c.args.text.now (query_term c.in-Ok.query) c.in-Ok.ensures.query

pub follow_query-requires-clause-terms : goal.follow_query-requires-clause-terms
follow_query-requires-clause-terms c = few_terms c.args.text.now (query_term c.in-Ok.query) c.in-Ok.ensures.query

pub returns-in-Ok-clause-decides : goal.returns-in-Ok-clause-decides
returns-in-Ok-clause-decides c =
    decides_as c.args.self.now c.follow_query.new.self (λ t a. inr (query_term c.in-Ok.query, c.in-Ok.ensures.query, a)) (λ u. u) c.follow_query.result c.follow_query.ensures.decides

pub returns-in-Err-Memory-clause-decides : goal.returns-in-Err-Memory-clause-decides
returns-in-Err-Memory-clause-decides c = (alike_same c.args.self.now, tt)

pub returns-in-Err-Bad-clause-decides : goal.returns-in-Err-Bad-clause-decides
returns-in-Err-Bad-clause-decides c =
    let fault = subst (IsQueryFault c.args.text.now) c.in-Err-Bad.field-0-is c.in-Err-Bad.ensures.fault in
    rw (c.in-Err-Bad.field-0-is) (said c.args.self.now (Bad c.in-Err-Bad.code) (inl (c.in-Err-Bad.code, fault, refl)))

pub returns-in-Ok-clause-follows : goal.returns-in-Ok-clause-follows
returns-in-Ok-clause-follows c = ⊎_elim (λ e. inl (query_term c.in-Ok.query, c.in-Ok.ensures.query, e)) (λ e. inr e) c.follow_query.ensures.follows

pub returns-in-Err-Bad-clause-follows : goal.returns-in-Err-Bad-clause-follows
returns-in-Err-Bad-clause-follows c = inr refl

pub returns-in-Err-Memory-clause-follows : goal.returns-in-Err-Memory-clause-follows
returns-in-Err-Memory-clause-follows c = inr refl
