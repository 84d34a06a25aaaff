-- For the crate's own functions: the nodes of the watches' queries.
use Rattle.std.specs.Prelude.{List, [], ◌∷◌}
use Rattle.label_scope.specs.declared.scope.Scope.TheVariants.{All}
use Rattle.label_scope.specs.Members.{Member}
use Rattle.plan_cache.specs.declared.operations.PlanNo.{PlanNo}
use Rattle.plan_cache.specs.Nodes.{PlanNode, IsNodeOf, narrowed_member}
use Rattle.plan_cache.specs.Refilled.{HasNode}
use Rattle.standing_queries.specs.Watches.{Watch}
use Rattle.itpg_session.specs.PlainWatches.{PlainWatch}
use Rattle.itpg_session.specs.Keeping.{IsOfWatch}

-- in order, these are the numbers of the nodes of the watches' paths between all objects
abbrev pub ArePlansOf : List PlanNode → List Watch → List PlanNo → Type 0
ArePlansOf nodes [] [] = Unit {0}
ArePlansOf nodes [] (number ∷ numbers) = ⊥
ArePlansOf nodes (w ∷ watches) [] = ⊥
ArePlansOf nodes (w ∷ watches) (number ∷ numbers) = IsNodeOf nodes number.0 (narrowed_member w.query.path All All) × ArePlansOf nodes watches numbers

-- the watches, where each stands for the node at its place in the list, if there is one
abbrev pub with_plans : List PlanNo → List Watch → List Watch
with_plans [] watches = watches
with_plans (number ∷ numbers) [] = []
with_plans (number ∷ numbers) (w ∷ watches) = record w { plan = number.0 } ∷ with_plans numbers watches

-- each member of a watch's query has a node
abbrev pub HasWatches : List PlanNode → List PlainWatch → Type 0
HasWatches nodes watches = (m : Member) → IsOfWatch watches m → HasNode nodes m
