use Rattle.std.proofs.Common.{refl, subst, rules}
use Rattle.std.specs.Prelude.{IfOk}
use Rattle.path_ast.specs.Terms.{query_term}
use Rattle.match_parser.specs.Reading.{Reads, FaultOf}
use Rattle.match_parser.proofs.InRange.{path_in_range, few_terms, asks_for_one}
use Rattle.itpg_session.specs.Replies.{Bad}
use Rattle.itpg_session.proofs.Answering.{pin_read, pin_bad}
use Rattle.itpg_session.proofs.Planned.{alike_same}
use Rattle.itpg_session.proofs.Told.{decides_as, said}
use Rattle.itpg_session.proofs.Written.{on_ok}
use Rattle.itpg_session.proofs.Lent.{read_asked, kept_at, bad_asked}
use Rattle.itpg_session.proofs.session.Session.ask_in.Goals as goal

pub ask_query_in-requires-clause-in_range : goal.ask_query_in-requires-clause-in_range
ask_query_in-requires-clause-in_range c = path_in_range c.args.text.now (query_term c.in-Ok.query) (subst (λ r. IfOk r (λ q. Reads c.args.text.now (query_term q))) c.in-Ok.is c.read_query.ensures.query)

pub ask_query_in-requires-clause-terms : goal.ask_query_in-requires-clause-terms
ask_query_in-requires-clause-terms c = few_terms c.args.text.now (query_term c.in-Ok.query) (subst (λ r. IfOk r (λ q. Reads c.args.text.now (query_term q))) c.in-Ok.is c.read_query.ensures.query)

pub ask_query_in-requires-clause-ends : goal.ask_query_in-requires-clause-ends
ask_query_in-requires-clause-ends c = asks_for_one c.args.text.now (query_term c.in-Ok.query) (subst (λ r. IfOk r (λ q. Reads c.args.text.now (query_term q))) c.in-Ok.is c.read_query.ensures.query)

pub returns-in-Ok-clause-decides : goal.returns-in-Ok-clause-decides
returns-in-Ok-clause-decides c =
    let reads = subst (λ r. IfOk r (λ q. Reads c.args.text.now (query_term q))) c.in-Ok.is c.read_query.ensures.query in
    decides_as c.args.self.now c.ask_query_in.new.self (pin_read c.args.self.now.limit c.args.self.now.machine c.args.name.now c.args.text.now (query_term c.in-Ok.query) reads) (λ u. u) c.ask_query_in.result c.ask_query_in.ensures.decides

pub returns-in-Ok-clause-asked : goal.returns-in-Ok-clause-asked
returns-in-Ok-clause-asked c =
    let s = c.args.self.now in
    let q = query_term c.in-Ok.query in
    let one = c.law_of_queries.ensures.one c.args.text.now in
    let reads = subst (λ r. IfOk r (λ q. Reads c.args.text.now (query_term q))) c.in-Ok.is c.read_query.ensures.query in
    on_ok (λ kept place answer turn. kept_at c.ask_query_in.new.self.pins place c.args.text.now q one reads
    (kept place answer (read_asked s.limit s.machine c.args.name.now c.args.text.now _ q one (λ code fault. c.law_of_queries.ensures.apart c.args.text.now q code reads fault) reads turn))) c.ask_query_in.result c.ask_query_in.ensures.asked

pub returns-in-Err-Bad-clause-decides : goal.returns-in-Err-Bad-clause-decides
returns-in-Err-Bad-clause-decides c =
    let fault : FaultOf c.args.text.now c.in-Err-Bad.code = search rules in
    said c.args.self.now (Bad c.in-Err-Bad.code) (pin_bad c.args.self.now.limit c.args.self.now.machine c.args.name.now c.args.text.now c.in-Err-Bad.code fault _ refl)

pub returns-in-Err-Bad-clause-asked : goal.returns-in-Err-Bad-clause-asked
returns-in-Err-Bad-clause-asked c = λ place answer turn.
    let fault : FaultOf c.args.text.now c.in-Err-Bad.code = search rules in
    absurd (bad_asked c.args.self.now.limit c.args.self.now.machine c.args.name.now c.args.text.now c.in-Err-Bad.code place answer
    (λ q reads. c.law_of_queries.ensures.apart c.args.text.now q c.in-Err-Bad.code reads fault) turn)

pub returns-clause-decides : goal.returns-clause-decides
returns-clause-decides c = (alike_same c.args.self.now, tt)
