use Rattle.std.proofs.Common.{◌<◌, length, rules}
use Rattle.standing_queries.proofs.Keeping.{within_items, lent_kept, lent_kind}
use Rattle.standing_queries.proofs.watches.Watches.kept.Goals as goal

pub index-requires : goal.index-requires
index-requires c = let within : c.args.i < length c.self.inside.items.items = within_items c.self.inside.queries.items c.self.inside.items.items c.args.self.now c.self.view_is c.self.invariant c.args.i c.requires in search rules

pub returns-clause-kept : goal.returns-clause-kept
returns-clause-kept c = lent_kept c.self.inside.queries.items c.self.inside.items.items c.args.self.now c.self.view_is c.self.invariant (λ r. r.now) c.args.i c.index.result.now c.requires c.index.ensures c.as_ref.result c.as_ref.ensures.value

pub returns-clause-kind : goal.returns-clause-kind
returns-clause-kind c = lent_kind c.self.inside.queries.items c.self.inside.items.items c.args.self.now c.self.view_is c.self.invariant (λ r. r.now) c.args.i c.index.result.now c.requires c.index.ensures c.as_ref.result c.as_ref.ensures.value
