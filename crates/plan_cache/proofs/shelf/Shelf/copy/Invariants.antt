use Rattle.std.proofs.Common.{◌≡◌, map, take}
use Rattle.std.specs.Prelude.{option_map}
use Rattle.plan_cache.proofs.shelf.Shelf.copy.Given as goal

abbrev pub invariant-loop-foot : goal.invariant-loop-foot
invariant-loop-foot l = l.feet.items ≡ take l.foot-index l.foot-items

abbrev pub invariant-loop-relation : goal.invariant-loop-relation
invariant-loop-relation l = map (option_map (λ r. r.value)) l.kept.items ≡ map (option_map (λ r. r.value)) (take l.relation-index l.relation-items)
