-- The footprints of plan nodes.
use Rattle.std.specs.Prelude.{◌≡◌, ℕ, List, [], ◌∷◌, map, slice_get, Some}
use Rattle.label_scope.specs.declared.footprint.Footprint.{Footprint}
use Rattle.label_scope.specs.Members.{Member}
use Rattle.label_scope.specs.Footprints.{footprint_between}
use Rattle.plan_cache.specs.Nodes.{PlanNode}

-- the footprint of a path between two narrowed scopes
abbrev pub footprint_of : Member → Footprint
footprint_of m = footprint_between m.path m.sources m.targets

-- those of the nodes, in order of their numbers
abbrev pub footprints_of : List PlanNode → List Footprint
footprints_of nodes = map (λ n. footprint_of n.member) nodes

-- at these numbers stand the footprints of the members, in order
abbrev pub AreFootprintsOf : List Footprint → List ℕ → List Member → Type 0
AreFootprintsOf feet [] [] = Unit {0}
AreFootprintsOf feet [] (m ∷ ms) = ⊥
AreFootprintsOf feet (k ∷ ks) [] = ⊥
AreFootprintsOf feet (k ∷ ks) (m ∷ ms) = (slice_get feet k ≡ Some (footprint_of m)) × AreFootprintsOf feet ks ms
