use Rattle.std.proofs.Common.{None, refl, ◌<◌, length, rules, false, sym, true≢false}
use Rattle.standing_queries.specs.Watches.{Watch}
use Rattle.standing_queries.proofs.Keeping.{within_items, kept_read, set_kept, stored_kept}
use Rattle.standing_queries.proofs.watches.Watches.drop_now.Goals as goal

pub index_mut-kept-requires : goal.index_mut-kept-requires
index_mut-kept-requires c = let within : c.args.i < length c.self.inside.items.items = within_items c.self.inside.queries.items c.self.inside.items.items c.args.self.now c.self.view_is c.self.invariant c.args.i c.requires in search rules

pub invariant_of-self : goal.invariant_of-self
invariant_of-self c =
    let k = c.index_mut-kept.result.now in
    let at = kept_read c.self.inside.queries.items c.self.inside.items.items c.args.self.now c.self.view_is c.self.invariant c.args.i k c.requires c.index_mut-kept.ensures.value in
    stored_kept c.self.inside.queries.items c.self.inside.items.items c.args.self.now c.self.view_is c.self.invariant c.args.i k (record { name = k.name; plan = k.plan; foot = k.foot; base = k.base; now = None; settled = false }) (λ (w : Watch). record w { now = None }) c.requires at (λ q. refl) (λ w. refl) (λ w at sound. record { asks = sound.asks; kind = sound.kind; kept_kind = tt }) (λ t. absurd (true≢false (sym t)))

pub returns : goal.returns
returns c =
    let k = c.index_mut-kept.result.now in
    let at = kept_read c.self.inside.queries.items c.self.inside.items.items c.args.self.now c.self.view_is c.self.invariant c.args.i k c.requires c.index_mut-kept.ensures.value in
    set_kept c.self.inside.queries.items c.self.inside.items.items c.args.self.now c.self.view_is c.self.invariant c.args.i k (record { name = k.name; plan = k.plan; foot = k.foot; base = k.base; now = None; settled = false }) (λ (w : Watch). record w { now = None }) c.requires at (λ q. refl)
