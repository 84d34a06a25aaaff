use Rattle.std.proofs.Common.{sym, subst}
use Rattle.path_ast.specs.Terms.{QueryTerm, query_term}
use Rattle.label_scope.specs.declared.scope.Scope.TheVariants.{All}
use Rattle.plan_cache.specs.Nodes.{IsNodeOf, narrowed_member}
use Rattle.relation_rows.specs.Answered.{answered}
use Rattle.itpg_session.specs.PlainWatches.{all_plain}
use Rattle.itpg_session.specs.Keeping.{IsStale}
use Rattle.itpg_session.proofs.Found.{planned_at, kept_at}
use Rattle.itpg_session.proofs.WorkedFor.{found_for, stale_at}
use Rattle.itpg_session.proofs.ticking.answer_now.Goals as goal

pub find-requires-clause-planned : goal.find-requires-clause-planned
find-requires-clause-planned c =
    planned_at c.args.graph.now c.args.max_rows c.args.plans.now.nodes c.args.watches.now c.requires.right.watches_right c.args.place c.plan.result.0 (query_term c.query.result.now) c.plan.ensures c.query.ensures.query

pub returns-in_ok-copy-in-Some-clause-answer : goal.returns-in_ok-copy-in-Some-clause-answer
returns-in_ok-copy-in-Some-clause-answer c =
    kept_at c.args.graph.now c.args.max_rows c.args.plans.now.nodes c.args.watches.now c.requires.right.watches_right c.args.place
    (answered c.in-Some.answer.now) (answered c.in_ok-copy-in-Some.field-0) c.in-Some.ensures.kept c.in_ok-copy-in-Some.ensures

pub returns-in-None-clause-worked : goal.returns-in-None-clause-worked
returns-in-None-clause-worked c =
    let q = query_term c.query.result.now in
    let ws = c.args.watches.now in
    let table = c.args.plans.now in
    let stale = stale_at ws c.args.place q c.in-None.ensures.kept c.query.ensures.query in
    let node = planned_at c.args.graph.now c.args.max_rows table.nodes ws c.requires.right.watches_right c.args.place c.plan.result.0 q c.plan.ensures c.query.ensures.query in
    found_for (IsStale (all_plain ws)) table c.find.new.plans c.plan.result.0 stale.0 stale.1
    (subst (λ (r : QueryTerm). IsNodeOf table.nodes c.plan.result.0 (narrowed_member r.path All All)) (sym stale.2) node) c.find.ensures.worked c.find.ensures.only
