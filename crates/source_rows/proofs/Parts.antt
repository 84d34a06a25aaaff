-- The neighbourhood of an object is a part of its graph.
use Rattle.std.proofs.Common.{◌≡◌, ◌⊎◌, inl, inr, ℕ, List, Option, Some, None, sym, ◌∙◌, subst}
use Rattle.std.specs.Prelude.{IsSomeAnd, ◌↔◌}
use Rattle.itpg_base.specs.Graphs.{Graph, Good, Stands, HasEnd}
use Rattle.itpg_base.proofs.Objects.{there, here}
use Rattle.itpg_base.specs.declared.object_number.ObjNo.{ObjNo}
use Rattle.itpg_graph.specs.Edges.{AreNumbers}
use Rattle.itpg_graph.specs.GraphParts.{IsOnly, HoldsEnds, ArePart}
use Rattle.source_rows.specs.Reach.{Reach}

-- what is reached holds the ends of its edges
pub reach_holds : (g : Graph) → Good g → (o : ℕ) (bound : Option ℕ) → HoldsEnds g (Reach g o bound)
reach_holds g good o bound e a reach has =
    (end_stands, elim (reach.1) [ inl k ↦ inr (e, k, has) | inr k ↦ absurd (no_edge k.0 k.2) ])
  where
    end_stands : Stands g a
    end_stands = let t = there g.objects a _ (good.ends_stand e a has) in here g.objects a _ t.0 t.1 t.2.0

    -- an end of an edge is no edge
    no_edge : (d : ℕ) → HasEnd g d e → ⊥
    no_edge d k =
        let n = there g.objects e _ (good.ends_stand d e k) in
        let m = there g.objects e _ has in
        let same : Some n.0 ≡ Some m.0 = sym n.1 ∙ m.1 in
        let none : n.0.ends ≡ None = n.2.1 in
        let none_too : m.0.ends ≡ None = cc in
        subst (λ w. IsSomeAnd w (λ n. (n.source ≡ a) ⊎ (n.target ≡ a))) none_too m.2.1

pub near_part : (g : Graph) → Good g → (o : ℕ) (bound : Option ℕ) (objects : List ObjNo) → AreNumbers (Reach g o bound) objects → ArePart g objects
near_part g good o bound objects are = record {
  good = good;
  rising = are.rising;
  stand = λ a h. (are.only a h).0;
  ends = λ e a h has. are.whole a (reach_holds g good o bound e a (are.only e h) has);
}

-- the graph of a set is that of an equal one
pub only_alike : (g part : Graph) (S T : ℕ → Type 0) → ((o : ℕ) → S o ↔ T o) → IsOnly g S part → IsOnly g T part
only_alike g part S T same only = record {
  begun = only.begun;
  count = only.count;
  each = λ o. elim (only.each o) [ inl k ↦ inl ((same o).0 k.0, k.1) | inr k ↦ inr ((λ h. k.0 ((same o).1 h)), k.1) ];
}
