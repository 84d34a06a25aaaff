use Rattle.std.proofs.Common.{◌≡◌, ℕ, ◌<◌, List, Some, length, slice_get, subst}
use Rattle.plan_cache.specs.declared.operations.PlanNo.{PlanNo}
use Rattle.plan_cache.specs.Nodes.{Table}
use Rattle.plan_cache.specs.Refilled.{KeepsShared}
use Rattle.plan_cache.specs.Former.{number_at, kept_at}
use Rattle.plan_cache.proofs.Refilled.{kept_shared}
use Rattle.plan_cache.proofs.plans.Plans.replace.Goals as goal

pub returns-clause-kept : goal.returns-clause-kept
returns-clause-kept c =
    let moved = subst (λ (f : List PlanNo). (k : ℕ) → k < length f → slice_get c.move_all.new.to.kept k ≡ Some (kept_at c.self.inside.shelf.kept (number_at f k))) c.deref.ensures.value c.move_all.ensures.moved in
    subst (λ (t : Table). KeepsShared t (record { nodes = c.args.nodes; kept = c.move_all.new.to.kept })) c.self.view_is
    (kept_shared (record { nodes = c.self.inside.nodes; kept = c.self.inside.shelf.kept }) (record { nodes = c.args.nodes; kept = c.move_all.new.to.kept }) c.in_ok-former.former.items
    c.in_ok-former.ensures.each c.self.invariant.each c.in_ok-former.ensures.former moved)
