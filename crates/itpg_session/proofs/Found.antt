-- What is found for a watch that stands at a place, and what a tick makes of it.
use Rattle.std.proofs.Common.{◌≡◌, ℕ, List, Option, Some, sym, ◌∙◌, subst}
use Rattle.std.specs.Prelude.{slice_get, IsSomeAnd, IfSome}
use Rattle.itpg_base.specs.Words.{Word}
use Rattle.itpg_base.specs.Graphs.{Graph}
use Rattle.path_ast.specs.Terms.{QueryTerm}
use Rattle.label_scope.specs.declared.scope.Scope.TheVariants.{All}
use Rattle.relation_rows.specs.Answered.{Answered}
use Rattle.plan_cache.specs.Nodes.{PlanNode, Table, IsNodeOf, narrowed_member}
use Rattle.standing_queries.specs.Changes.{IsRest}
use Rattle.standing_queries.specs.Watches.{Watch}
use Rattle.itpg_session.specs.PlainWatches.{plain}
use Rattle.itpg_session.specs.Ticks.{Ticked, StaysWide, Moves, IsTicked, IsUnmoved}
use Rattle.itpg_session.specs.Questions.{HasAnswer}
use Rattle.itpg_session.specs.Keeping.{AreWatchesRight, IsWorked}
use Rattle.itpg_session.proofs.NamedLists.{found_at}

-- ---- one watch of those that stand well

module _ (g : Graph) (limit : ℕ) (nodes : List PlanNode) (ws : List Watch) (right : AreWatchesRight g limit nodes ws) (i : ℕ) where
  -- its plan is the node of its query
  pub planned_at : (plan : ℕ) (q : QueryTerm) → IsSomeAnd (slice_get ws i) (λ w. w.plan ≡ plan) → IsSomeAnd (slice_get ws i) (λ w. w.query ≡ q) → IsNodeOf nodes plan (narrowed_member q.path All All)
  planned_at plan q numbered asks =
      let at = found_at (λ w. w.plan ≡ plan) ws i numbered in
      let same : at.0.query ≡ q = subst (λ (o : Option Watch). IsSomeAnd o (λ w. w.query ≡ q)) at.2 asks in
      subst (λ (r : QueryTerm). IsNodeOf nodes plan (narrowed_member r.path All All)) same
      (subst (λ (n : ℕ). IsNodeOf nodes n (narrowed_member at.0.query.path All All)) at.3 (right at.0 at.1).planned)

  -- a kept answer, and a copy of it, is its query's answer
  pub kept_at : (answer copy : Answered) → IsSomeAnd (slice_get ws i) (λ w. w.now ≡ Some answer) → copy ≡ answer → IsSomeAnd (slice_get ws i) (λ w. HasAnswer g limit w.query copy)
  kept_at answer copy kept same =
      let at = found_at (λ w. w.now ≡ Some answer) ws i kept in
      let has : HasAnswer g limit at.0.query answer = subst (λ (o : Option Answered). IfSome o (HasAnswer g limit at.0.query)) at.3 (right at.0 at.1).answered in
      subst (λ (o : Option Watch). IsSomeAnd o (λ w. HasAnswer g limit w.query copy)) (sym at.2) (subst (HasAnswer g limit at.0.query) (sym same) has)

-- ---- a watch whose base is its kept answer

module _ (g : Graph) (limit : ℕ) (nodes : List PlanNode) (ws : List Watch) (right : AreWatchesRight g limit nodes ws) (i : ℕ) (name : Word) (answer : Answered)
    (named : IsSomeAnd (slice_get ws i) (λ w. w.name ≡ name)) (settled : IsSomeAnd (slice_get ws i) (λ w. (w.base ≡ answer) × (w.now ≡ Some answer))) where
  -- what is found so of it is what a tick finds
  pub unmoved_ticked : (x : Ticked) → IsUnmoved name answer x → IsSomeAnd (slice_get ws i) (λ w. IsTicked g limit (plain w) x)
  unmoved_ticked (StaysWide other) is = absurd is
  unmoved_ticked (Moves other now gained lost) is =
      let at = found_at (λ w. (w.base ≡ answer) × (w.now ≡ Some answer)) ws i settled in
      let both = at.3 in
      let own : at.0.name ≡ name = subst (λ (o : Option Watch). IsSomeAnd o (λ w. w.name ≡ name)) at.2 named in
      let has : HasAnswer g limit at.0.query answer = subst (λ (o : Option Answered). IfSome o (HasAnswer g limit at.0.query)) both.1 (right at.0 at.1).answered in
      subst (λ (o : Option Watch). IsSomeAnd o (λ w. IsTicked g limit (plain w) (Moves other now gained lost))) (sym at.2) (
        own ∙ sym is.0,
        subst (HasAnswer g limit at.0.query) (sym is.1) has,
        subst (λ (b : Answered). IsRest now b gained) (sym both.0) (subst (λ (b : Answered). IsRest b answer gained) (sym is.1) is.2),
        subst (λ (b : Answered). IsRest b now lost) (sym both.0) (subst (λ (b : Answered). IsRest answer b lost) (sym is.1) is.3),
      )

-- ---- a table that relations are kept in

pub worked_again : (a b c : Table) → IsWorked a b → IsWorked b c → IsWorked a c
worked_again a b c h k = record { nodes = k.nodes ∙ h.nodes; stays = λ n rows e. k.stays n rows (h.stays n rows e) }
