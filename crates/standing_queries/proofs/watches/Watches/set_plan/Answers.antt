use Rattle.std.proofs.Common.{refl, ◌<◌, length, rules}
use Rattle.standing_queries.specs.Watches.{Watch}
use Rattle.standing_queries.proofs.Keeping.{within_items, kept_read, set_kept, stored_kept, got_among}
use Rattle.standing_queries.proofs.watches.Watches.set_plan.Goals as goal

pub index_mut-requires : goal.index_mut-requires
index_mut-requires c = let within : c.args.i < length c.self.inside.items.items = within_items c.self.inside.queries.items c.self.inside.items.items c.args.self.now c.self.view_is c.self.invariant c.args.i c.requires in search rules

pub invariant_of-self : goal.invariant_of-self
invariant_of-self c =
    let k = c.index_mut.result.now in
    let at = kept_read c.self.inside.queries.items c.self.inside.items.items c.args.self.now c.self.view_is c.self.invariant c.args.i k c.requires c.index_mut.ensures.value in
    stored_kept c.self.inside.queries.items c.self.inside.items.items c.args.self.now c.self.view_is c.self.invariant c.args.i k (record { name = k.name; plan = c.args.plan; foot = k.foot; base = k.base; now = k.now; settled = k.settled }) (λ (w : Watch). record w { plan = c.args.plan.0 }) c.requires at (λ q. refl) (λ w. refl) (λ w at sound. record { asks = sound.asks; kind = sound.kind; kept_kind = sound.kept_kind }) (c.self.invariant.settled k (got_among c.self.inside.items.items c.args.i k at))

pub returns : goal.returns
returns c =
    let k = c.index_mut.result.now in
    let at = kept_read c.self.inside.queries.items c.self.inside.items.items c.args.self.now c.self.view_is c.self.invariant c.args.i k c.requires c.index_mut.ensures.value in
    set_kept c.self.inside.queries.items c.self.inside.items.items c.args.self.now c.self.view_is c.self.invariant c.args.i k (record { name = k.name; plan = c.args.plan; foot = k.foot; base = k.base; now = k.now; settled = k.settled }) (λ (w : Watch). record w { plan = c.args.plan.0 }) c.requires at (λ q. refl)
