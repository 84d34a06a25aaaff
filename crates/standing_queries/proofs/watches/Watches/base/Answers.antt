use Rattle.std.proofs.Common.{◌≡◌, refl, ◌<◌, length, rules}
use Rattle.relation_rows.specs.Answered.{answered}
use Rattle.standing_queries.specs.Watches.{IsOfKind}
use Rattle.standing_queries.proofs.Keeping.{within_items, kept_has, sound_kept}
use Rattle.standing_queries.proofs.watches.Watches.base.Goals as goal

pub index-requires : goal.index-requires
index-requires c = let within : c.args.i < length c.self.inside.items.items = within_items c.self.inside.queries.items c.self.inside.items.items c.args.self.now c.self.view_is c.self.invariant c.args.i c.requires in search rules

pub returns-clause-base : goal.returns-clause-base
returns-clause-base c = kept_has c.self.inside.queries.items c.self.inside.items.items c.args.self.now c.self.view_is c.self.invariant c.args.i c.index.result.now (λ w. w.base ≡ answered c.index.result.now.base) c.requires c.index.ensures (λ q. refl)

pub returns-clause-kind : goal.returns-clause-kind
returns-clause-kind c = sound_kept c.self.inside.queries.items c.self.inside.items.items c.args.self.now c.self.view_is c.self.invariant c.args.i c.index.result.now (λ w. IsOfKind w.query (answered c.index.result.now.base)) c.requires c.index.ensures (λ q sound. sound.kind)
