-- For the crate's own functions: the nodes that stored keys stand for.
use Rattle.std.specs.Prelude.{◌≤◌, List, [], ◌∷◌, ◌++◌, length}
use Rattle.label_scope.specs.declared.scope.Scope.{Scope}
use Rattle.plan_cache.specs.declared.key.PlanKey.{PlanKey}
use Rattle.plan_cache.specs.declared.nodes.TheConstants.{MAX_NODES}
use Rattle.plan_cache.specs.Operations.{OpTerm, op_term, op_children}
use Rattle.plan_cache.specs.Nodes.{PlanNode, MayStand, IsWalkScope, read_back}

-- the node that an operation makes behind these, between two scopes
abbrev pub node_with : List PlanNode → OpTerm → Scope → Scope → PlanNode
node_with nodes op a b = record { member = record { path = read_back nodes op; sources = a; targets = b }; children = op_children op }

abbrev pub node_of : List PlanNode → PlanKey → PlanNode
node_of nodes k = node_with nodes (op_term k.op) k.sources k.targets

-- these nodes, and behind them those of the keys
abbrev pub nodes_from : List PlanNode → List PlanKey → List PlanNode
nodes_from done [] = done
nodes_from done (k ∷ keys) = nodes_from (done ++ node_of done k ∷ []) keys

-- the key's node may stand behind these, and the key has its walk scope
pub record MayFollow (done : List PlanNode) (k : PlanKey) : Type 0 where
  pub stand : MayStand done (node_of done k)
  pub walk : IsWalkScope (node_of done k).member k.walk

-- each key may follow those before it
abbrev pub AllMayFollow : List PlanNode → List PlanKey → Type 0
AllMayFollow done [] = Unit {0}
AllMayFollow done (k ∷ keys) = MayFollow done k × AllMayFollow (done ++ node_of done k ∷ []) keys

pub record AreStored (keys : List PlanKey) : Type 0 where
  pub few : length keys ≤ MAX_NODES
  pub follow : AllMayFollow [] keys
