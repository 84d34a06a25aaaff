use Rattle.std.proofs.Common.{inl, inr, [], ◌∷◌, refl, arith}
use Rattle.source_rows.proofs.examples.reach_of_a_node.Goals as goal

pub returns-clause-edge : goal.returns-clause-edge
returns-clause-edge c = (refl, inl (3 ∷ [], omega arith, (inl (refl, inl refl), refl)))

pub returns-clause-end : goal.returns-clause-end
returns-clause-end c = (refl, inr (3, (3 ∷ [], omega arith, (inl (refl, inl refl), refl)), (refl, inr refl)))
