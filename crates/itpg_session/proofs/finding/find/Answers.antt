use Rattle.std.proofs.Common.{slice_get, arith}
use Rattle.path_ast.specs.Terms.{path_term, query_term}
use Rattle.label_scope.specs.declared.scope.Scope.TheVariants.{All}
use Rattle.relation_rows.specs.Answered.{answered}
use Rattle.path_eval.proofs.Asked.{right_rows}
use Rattle.path_eval.proofs.Working.{few_rows}
use Rattle.itpg_session.proofs.Replying.{rows_found}
use Rattle.itpg_session.proofs.finding.find.Goals as goal

pub returns-in-Ok-clause-answer : goal.returns-in-Ok-clause-answer
returns-in-Ok-clause-answer c =
    let found = right_rows c.args.graph.now c.args.max_rows (path_term c.args.query.now.path) All All c.in_ok-relation.ensures.good (slice_get c.args.plans.now.nodes c.args.no.0) c.requires.planned c.in_ok-relation.relation.value c.in_ok-relation.ensures.rows in
    rows_found c.args.graph.now c.args.max_rows (query_term c.args.query.now) c.in_ok-relation.relation.value (answered c.in-Ok.answer) found.1 found.0 c.in-Ok.ensures.answer

pub returns-in-Ok-clause-few : goal.returns-in-Ok-clause-few
returns-in-Ok-clause-few c =
    let found = right_rows c.args.graph.now c.args.max_rows (path_term c.args.query.now.path) All All c.in_ok-relation.ensures.good (slice_get c.args.plans.now.nodes c.args.no.0) c.requires.planned c.in_ok-relation.relation.value c.in_ok-relation.ensures.rows in
    let all = few_rows c.args.graph.now c.args.max_rows c.in_ok-relation.ensures.good (path_term c.args.query.now.path) All All c.in_ok-relation.relation.value found.0 found.1 in
    let some = c.in-Ok.ensures.few in
    omega (arith, all, some)
