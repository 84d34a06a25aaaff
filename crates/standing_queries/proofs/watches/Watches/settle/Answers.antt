use Rattle.std.proofs.Common.{Some, true, refl, ap, ◌<◌, length, rules}
use Rattle.relation_rows.specs.Answered.{Answered, answered}
use Rattle.standing_queries.specs.Stores.{watch_of}
use Rattle.standing_queries.specs.Watches.{Watch, IsOfKind}
use Rattle.standing_queries.proofs.Watching.{said_at}
use Rattle.standing_queries.proofs.Keeping.{within_items, kept_read, set_kept, stored_kept}
use Rattle.standing_queries.proofs.watches.Watches.settle.Goals as goal

pub index_mut-kept-requires : goal.index_mut-kept-requires
index_mut-kept-requires c = let within : c.args.i < length c.self.inside.items.items = within_items c.self.inside.queries.items c.self.inside.items.items c.args.self.now c.self.view_is c.self.invariant c.args.i c.requires.there in search rules

pub invariant_of-self : goal.invariant_of-self
invariant_of-self c =
    let k = c.index_mut-kept.result.now in
    let at = kept_read c.self.inside.queries.items c.self.inside.items.items c.args.self.now c.self.view_is c.self.invariant c.args.i k c.requires.there c.index_mut-kept.ensures.value in
    stored_kept c.self.inside.queries.items c.self.inside.items.items c.args.self.now c.self.view_is c.self.invariant c.args.i k (record { name = k.name; plan = k.plan; foot = k.foot; base = c.args.one; now = Some c.args.copy; settled = true }) (λ (w : Watch). record w { base = answered c.args.one; now = Some (answered c.args.one) }) c.requires.there at
    (λ q. ap (λ (a : Answered). record (watch_of (q, k)) { base = answered c.args.one; now = Some a }) c.requires.same) (λ w. refl)
    (λ w at sound.
    let kind = said_at c.args.self.now c.args.i w (λ u. IsOfKind u.query (answered c.args.one)) at c.requires.kind in
    record { asks = sound.asks; kind = kind; kept_kind = kind })
    (λ t. ap (λ (a : Answered). Some a) c.requires.same)

pub returns : goal.returns
returns c =
    let k = c.index_mut-kept.result.now in
    let at = kept_read c.self.inside.queries.items c.self.inside.items.items c.args.self.now c.self.view_is c.self.invariant c.args.i k c.requires.there c.index_mut-kept.ensures.value in
    set_kept c.self.inside.queries.items c.self.inside.items.items c.args.self.now c.self.view_is c.self.invariant c.args.i k (record { name = k.name; plan = k.plan; foot = k.foot; base = c.args.one; now = Some c.args.copy; settled = true }) (λ (w : Watch). record w { base = answered c.args.one; now = Some (answered c.args.one) }) c.requires.there at
    (λ q. ap (λ (a : Answered). record (watch_of (q, k)) { base = answered c.args.one; now = Some a }) c.requires.same)
