use Rattle.std.proofs.Common.{◌<◌, length, rules}
use Rattle.standing_queries.proofs.Keeping.{within_items, settled_here}
use Rattle.standing_queries.proofs.watches.Watches.settled.Goals as goal

pub index-kept-requires : goal.index-kept-requires
index-kept-requires c = let within : c.args.i < length c.self.inside.items.items = within_items c.self.inside.queries.items c.self.inside.items.items c.args.self.now c.self.view_is c.self.invariant c.args.i c.requires in search rules

pub returns-then-kept : goal.returns-then-kept
returns-then-kept c = settled_here c.self.inside.queries.items c.self.inside.items.items c.args.self.now c.self.view_is c.self.invariant c.args.i c.index-kept.result.now c.requires c.index-kept.ensures c.if-kept.true
