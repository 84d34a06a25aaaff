use Rattle.std.proofs.Common.{◌<◌, List, [], length, sym, ap, subst, arith, slice_get, ◌∙◌}
use Rattle.plan_cache.specs.declared.key.PlanKey.{PlanKey}
use Rattle.plan_cache.specs.declared.nodes.TheConstants.{MAX_NODES}
use Rattle.plan_cache.specs.Nodes.{PlanNode}
use Rattle.plan_cache.specs.Growing.{Grows}
use Rattle.plan_cache.specs.Stored.{nodes_from, MayFollow, AreStored}
use Rattle.plan_cache.proofs.Placing.{table_after, added_at, grows_after, placed_at}
use Rattle.plan_cache.proofs.Stored.{as_many}
use Rattle.plan_cache.proofs.nodes.Nodes.place.Goals as goal

pub invariant_of-self-2 : goal.invariant_of-self-2
invariant_of-self-2 c =
    let keys = c.self.inside.keys.keys in
    let follows = subst (λ (v : List PlanNode). MayFollow v c.args.key) (sym c.self.view_is) c.requires.follows in
    let many = as_many [] c.self.inside.keys.keys in
    let seen = ap length c.self.view_is in
    let room = c.requires.room in
    let few : length c.self.inside.keys.keys < MAX_NODES = omega arith in
    subst AreStored (sym c.in_ok-index.ensures.keys) (table_after c.self.inside.keys.keys c.args.key c.self.invariant few follows)

pub returns-clause-grows : goal.returns-clause-grows
returns-clause-grows c =
    let grown = subst (λ (v : List PlanKey). Grows 1 (nodes_from [] c.self.inside.keys.keys) (nodes_from [] v)) (sym c.in_ok-index.ensures.keys)
    (grows_after c.self.inside.keys.keys c.args.key) in
    subst (λ (v : List PlanNode). Grows 1 v (nodes_from [] c.insert_full.new.self.keys)) c.self.view_is grown

pub returns-clause-placed : goal.returns-clause-placed
returns-clause-placed c =
    let stored = c.in_ok-index.ensures.stored in
    placed_at c.args.self.now c.args.key c.requires.follows.stand
    c.insert_full.new.self.keys (invariant_of-self-2 c) (returns-clause-grows c) c.in_ok-index.index stored.0 stored.1 stored.2

pub returns-clause-added : goal.returns-clause-added
returns-clause-added c =
    let stored = c.in_ok-index.ensures.stored in
    let at = ap (λ (v : List PlanKey). slice_get v c.in_ok-index.index) (sym c.in_ok-index.ensures.keys) ∙ stored.1 in
    rw (← c.self.view_is, c.in_ok-index.ensures.keys) (added_at c.self.inside.keys.keys c.args.key c.in_ok-index.index stored.0 at stored.2)
