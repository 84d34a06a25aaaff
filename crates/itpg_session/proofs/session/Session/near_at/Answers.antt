use Rattle.std.proofs.Common.{ℕ, ap, sym, subst}
use Rattle.std.specs.Prelude.{Err, slice_get, IsSomeAnd}
use Rattle.itpg_base.specs.Graphs.{Stands}
use Rattle.path_ast.specs.Terms.{query_term, path_term}
use Rattle.relation_rows.specs.Answered.{pairs}
use Rattle.source_rows.specs.Follows.{entry}
use Rattle.path_eval.specs.Nearby.{IsTooWideNear}
use Rattle.itpg_session.specs.Keeping.{IsEntryRight}
use Rattle.itpg_session.specs.Machine.{Standing}
use Rattle.itpg_session.specs.Replies.{Reply, Rows, Wide, IsFoundNear}
use Rattle.itpg_session.proofs.Planned.{alike_same}
use Rattle.itpg_session.proofs.Written.{if_ok}
use Rattle.itpg_session.proofs.NearKept.{of_query}
use Rattle.itpg_session.proofs.session.Session.near_at.Goals as goal

pub keep_near-requires-clause-right : goal.keep_near-requires-clause-right
keep_near-requires-clause-right c =
    let q = query_term c.query.result.now in
    let d = entry c.args.object.0 c.in-Ok.near.objects.items (pairs c.in-Ok.near.rows.value) in
    let fits = subst (λ (n : ℕ). IsTooWideNear c.self.inside.graph n (path_term c.query.result.now.path) c.args.object.0 → ⊥) c.max_rows.ensures.value c.in-Ok.ensures.fits in
    let own : IsEntryRight c.self.inside.graph c.self.inside.limits q d = record {
      stands = subst (λ (s : Standing). Stands s.machine.graph c.args.object.0) (sym c.self.view_is) c.requires.stands;
      reach = c.in-Ok.ensures.objects;
      rows = (fits, c.in-Ok.ensures.rows);
    } in
    subst (λ (s : Standing). IsSomeAnd (slice_get s.follows c.args.place) (λ f. IsEntryRight s.machine.graph s.limit f.query d)) c.self.view_is
    (of_query (λ p. IsEntryRight c.self.inside.graph c.self.inside.limits p d) c.self.inside.follows c.args.place q c.query.ensures.query own)

pub returns-in-Ok-clause-found : goal.returns-in-Ok-clause-found
returns-in-Ok-clause-found c =
    let q = query_term c.query.result.now in
    let fits = subst (λ (n : ℕ). IsTooWideNear c.self.inside.graph n (path_term c.query.result.now.path) c.args.object.0 → ⊥) c.max_rows.ensures.value c.in-Ok.ensures.fits in
    let found = subst (λ (s : Standing). IsSomeAnd (slice_get s.follows c.args.place) (λ f. IsFoundNear s.machine.graph s.limit f.query c.args.object.0 (Rows (pairs c.in-Ok.near.rows.value)))) c.self.view_is
    (of_query (λ p. IsFoundNear c.self.inside.graph c.self.inside.limits p c.args.object.0 (Rows (pairs c.in-Ok.near.rows.value))) c.self.inside.follows c.args.place q c.query.ensures.query (fits, c.in-Ok.ensures.rows)) in
    if_ok (λ reply told. subst (λ (r : Reply). IsSomeAnd (slice_get c.args.self.now.follows c.args.place) (λ f. IsFoundNear c.args.self.now.machine.graph c.args.self.now.limit f.query c.args.object.0 r)) (sym told) found)
    c.keep_near.result c.keep_near.ensures.told

pub returns-in-Err-Wide-clause-found : goal.returns-in-Err-Wide-clause-found
returns-in-Err-Wide-clause-found c =
    let q = query_term c.query.result.now in
    let wide = subst (λ (n : ℕ). IsTooWideNear c.self.inside.graph n (path_term c.query.result.now.path) c.args.object.0) c.max_rows.ensures.value (c.in-Err-Wide.ensures.wide (ap Err c.in-Err-Wide.field-0-is)) in
    subst (λ (s : Standing). IsSomeAnd (slice_get s.follows c.args.place) (λ f. IsFoundNear s.machine.graph s.limit f.query c.args.object.0 Wide)) c.self.view_is
    (of_query (λ p. IsFoundNear c.self.inside.graph c.self.inside.limits p c.args.object.0 Wide) c.self.inside.follows c.args.place q c.query.ensures.query wide)

pub returns-in-Err-Wide-clause-alike : goal.returns-in-Err-Wide-clause-alike
returns-in-Err-Wide-clause-alike c = alike_same c.args.self.now

pub returns-in-Err-Memory-clause-alike : goal.returns-in-Err-Memory-clause-alike
returns-in-Err-Memory-clause-alike c = alike_same c.args.self.now
