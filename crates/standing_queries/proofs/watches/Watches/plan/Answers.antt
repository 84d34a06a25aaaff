use Rattle.std.proofs.Common.{◌≡◌, refl, ◌<◌, length, rules}
use Rattle.standing_queries.proofs.Keeping.{within_items, kept_has}
use Rattle.standing_queries.proofs.watches.Watches.plan.Goals as goal

pub index-requires : goal.index-requires
index-requires c = let within : c.args.i < length c.self.inside.items.items = within_items c.self.inside.queries.items c.self.inside.items.items c.args.self.now c.self.view_is c.self.invariant c.args.i c.requires in search rules

pub returns : goal.returns
returns c = kept_has c.self.inside.queries.items c.self.inside.items.items c.args.self.now c.self.view_is c.self.invariant c.args.i c.index.result.now (λ w. w.plan ≡ c.index.result.now.plan.0) c.requires c.index.ensures (λ q. refl)
