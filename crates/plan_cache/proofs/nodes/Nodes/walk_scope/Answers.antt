use Rattle.std.specs.Prelude.{option_map}
use Rattle.plan_cache.proofs.Placing.{number_within, walk_at}
use Rattle.plan_cache.proofs.nodes.Nodes.walk_scope.Goals as goal

pub index-requires : goal.index-requires
index-requires c = number_within c.self.inside.keys.keys c.args.self.now c.args.no.0 c.self.view_is c.requires

pub returns : goal.returns
returns c =
    walk_at c.self.inside.keys.keys c.args.self.now c.args.no.0 c.index.result.now (option_map (λ r. r.now) c.as_ref.result) c.self.invariant c.self.view_is c.index.ensures c.as_ref.ensures.value
