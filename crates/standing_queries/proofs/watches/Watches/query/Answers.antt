use Rattle.std.proofs.Common.{◌≡◌, refl, ◌<◌, length, rules}
use Rattle.path_ast.specs.Terms.{query_term}
use Rattle.standing_queries.proofs.Keeping.{within_queries, query_has, sound_query}
use Rattle.standing_queries.proofs.watches.Watches.query.Goals as goal

pub index-requires : goal.index-requires
index-requires c = let within : c.args.i < length c.self.inside.queries.items = within_queries c.self.inside.queries.items c.self.inside.items.items c.args.self.now c.self.view_is c.self.invariant c.args.i c.requires in search rules

pub returns-clause-query : goal.returns-clause-query
returns-clause-query c = query_has c.self.inside.queries.items c.self.inside.items.items c.args.self.now c.self.view_is c.self.invariant c.args.i c.index.result.now (λ w. w.query ≡ query_term c.index.result.now) c.requires c.index.ensures (λ k. refl)

pub returns-clause-in_range : goal.returns-clause-in_range
returns-clause-in_range c = (sound_query c.self.inside.queries.items c.self.inside.items.items c.args.self.now c.self.view_is c.self.invariant c.args.i c.index.result.now c.requires c.index.ensures).in_range

pub returns-clause-terms : goal.returns-clause-terms
returns-clause-terms c = (sound_query c.self.inside.queries.items c.self.inside.items.items c.args.self.now c.self.view_is c.self.invariant c.args.i c.index.result.now c.requires c.index.ensures).terms

pub returns-clause-ends : goal.returns-clause-ends
returns-clause-ends c = (sound_query c.self.inside.queries.items c.self.inside.items.items c.args.self.now c.self.view_is c.self.invariant c.args.i c.index.result.now c.requires c.index.ensures).ends
