use Rattle.std.proofs.Common.{◌≡◌, ℕ, None, Some, sym, ap, subst}
use Rattle.std.specs.Prelude.{Option, Err, slice_get, IsSomeAnd}
use Rattle.path_ast.specs.Terms.{QueryTerm, query_term}
use Rattle.label_scope.specs.declared.scope.Scope.TheVariants.{All}
use Rattle.plan_cache.specs.Nodes.{IsNodeOf, narrowed_member}
use Rattle.relation_rows.specs.Answered.{Answered, answered}
use Rattle.itpg_session.specs.Questions.{IsTooWide, HasAnswer}
use Rattle.itpg_session.specs.Replies.{FindsFor}
use Rattle.itpg_session.specs.PlainWatches.{all_plain}
use Rattle.itpg_session.specs.Keeping.{IsWorkedFor, KeepsPath, KeepsFound}
use Rattle.itpg_session.specs.Machine.{Standing}
use Rattle.itpg_session.proofs.Found.{planned_at}
use Rattle.itpg_session.proofs.KeptFresh.{query_at}
use Rattle.itpg_session.proofs.WorkedFor.{found_for, asking_at}
use Rattle.itpg_session.proofs.Settled.{found_at, worked_alike}
use Rattle.itpg_session.proofs.session.Session.find_at.Goals as goal
use Rattle.itpg_session.proofs.session.Session.find_at.Goals.{in-Ok, in-Err-Wide, in-Err-Memory}

pub find-requires-clause-planned : goal.find-requires-clause-planned
find-requires-clause-planned c =
    planned_at c.self.inside.graph c.self.inside.limits c.self.inside.plans.nodes c.self.inside.watches c.self.invariant.kept.watches_right c.args.place c.plan.result.0 (query_term c.query.result.now) c.plan.ensures c.query.ensures.query

pub returns-clause-found : goal.returns-clause-found
returns-clause-found c =
    let g = c.self.inside.graph in
    let q = query_term c.query.result.now in
    let there : (found : Option Answered) → FindsFor g c.self.inside.limits q found → IsSomeAnd (slice_get c.args.self.now.machine.watches c.args.place) (λ w. FindsFor c.args.self.now.machine.graph c.args.self.now.limit w.query found) =
    λ found finds. subst (λ (s : Standing). IsSomeAnd (slice_get s.machine.watches c.args.place) (λ w. FindsFor s.machine.graph s.limit w.query found)) c.self.view_is
    (found_at g c.self.inside.limits c.self.inside.watches c.args.place q found c.query.ensures.query finds) in
    elim c.match-find.branch [
      | in-Ok w ↦ rw (w.result-is) (there (Some (answered w.in-Ok.answer)) (subst (λ (n : ℕ). HasAnswer g n q (answered w.in-Ok.answer)) c.max_rows.ensures.value w.in-Ok.ensures.answer))
      | in-Err-Wide w ↦ rw (w.result-is) (there None (subst (λ (n : ℕ). IsTooWide g n q) c.max_rows.ensures.value (w.in-Err-Wide.ensures.wide (ap Err w.in-Err-Wide.field-0-is))))
      | in-Err-Memory w ↦ rw (w.result-is) tt
    ]

pub returns-clause-alike : goal.returns-clause-alike
returns-clause-alike c = worked_alike c.self.inside.graph c.self.inside.limits c.self.inside.plans c.self.inside.watches c.self.inside.pins.pins c.self.inside.follows c.args.self.now c.self.view_is c.find.new.plans

pub returns-clause-worked : goal.returns-clause-worked
returns-clause-worked c =
    let q = query_term c.query.result.now in
    let ws = c.self.inside.watches in
    let table = c.self.inside.plans in
    let here = asking_at ws c.args.place q c.query.ensures.query in
    let node = planned_at c.self.inside.graph c.self.inside.limits table.nodes ws c.self.invariant.kept.watches_right c.args.place c.plan.result.0 q c.plan.ensures c.query.ensures.query in
    subst (λ (s : Standing). IsWorkedFor (λ w. slice_get s.machine.watches c.args.place ≡ Some w) s.table c.find.new.plans) c.self.view_is
    (found_for (λ w. slice_get (all_plain ws) c.args.place ≡ Some w) table c.find.new.plans c.plan.result.0 here.0 here.1
    (subst (λ (r : QueryTerm). IsNodeOf table.nodes c.plan.result.0 (narrowed_member r.path All All)) (sym here.2) node) c.find.ensures.worked c.find.ensures.only)

pub returns-clause-keeps : goal.returns-clause-keeps
returns-clause-keeps c =
    let g = c.self.inside.graph in
    let q = query_term c.query.result.now in
    let table = c.find.new.plans in
    let there : (found : Option Answered) → IsSomeAnd (slice_get (all_plain c.self.inside.watches) c.args.place) (λ w. KeepsFound g table w found)
    → IsSomeAnd (slice_get c.args.self.now.machine.watches c.args.place) (λ w. KeepsFound c.args.self.now.machine.graph table w found) =
    λ found keeps. subst (λ (s : Standing). IsSomeAnd (slice_get s.machine.watches c.args.place) (λ w. KeepsFound s.machine.graph table w found)) c.self.view_is keeps in
    elim c.match-find.branch [
      | in-Ok w ↦ rw (w.result-is) (there (Some (answered w.in-Ok.answer)) (query_at (λ r. KeepsPath g r.path table) c.self.inside.watches c.args.place q c.query.ensures.query w.in-Ok.ensures.keeps))
      | in-Err-Wide w ↦ rw (w.result-is) (there None (query_at (λ r. Unit {0}) c.self.inside.watches c.args.place q c.query.ensures.query tt))
      | in-Err-Memory w ↦ rw (w.result-is) tt
    ]
