-- The axes, from the zones between objects.
use Rattle.std.proofs.Common.{◌≡◌, ◌↔◌, ◌⊎◌, inl, inr, ℕ, List, Option, Some, None, refl, sym, ◌∙◌, ap, subst}
use Rattle.std.specs.Prelude.{IsSomeAnd, IsTrue, slice_get}
use Rattle.itpg_base.specs.declared.object_number.ObjNo.{ObjNo}
use Rattle.itpg_base.specs.Graphs.{Graph, Object, Ends, Good, ObjectIs, HasEnd, Stands}
use Rattle.itpg_base.specs.Points.{Point}
use Rattle.itpg_base.proofs.Objects.{there, here, same_some}
use Rattle.condition_eval.proofs.Listed.{number_among, among_number}
use Rattle.itpg_graph.specs.GraphParts.{StandingAreNumbers}
use Rattle.itpg_graph.specs.Kinds.{ends_of}
use Rattle.zone_core.specs.declared.Bounds.{Bounds}
use Rattle.label_scope.specs.declared.scope.Scope.{Scope}
use Rattle.path_eval.specs.declared.axes.Direction.{Direction}
use Rattle.path_eval.specs.declared.axes.Direction.TheVariants as to
use Rattle.path_eval.specs.Axes.{Joins, far_end, LeadsToEdge, StepTo, StepToOne, StepsFrom}

number_ext : (o p : ObjNo) → o.0 ≡ p.0 → o ≡ p
number_ext o p e = ap (λ (n : ℕ). let v : ObjNo = record { 0 = n } in v) e

module _ (g : Graph) where
  -- the object of an edge's fact stands at its place with its ends
  module _ (o : ℕ) where
    with_ends : (P : Ends → Type 0) → ObjectIs g o (λ x. IsSomeAnd x.ends P) → (x : Object) (n : Ends) → slice_get g.objects o ≡ Some x → x.ends ≡ Some n → P n
    with_ends P h x n at ends =
        let t = there g.objects o (λ (x : Object). IsSomeAnd x.ends P) h in
        subst (λ (v : Option Ends). IsSomeAnd v P) (ap (λ (v : Object). v.ends) (same_some t.0 x _ t.1 at) ∙ ends) t.2

    without_ends : (P : Ends → Type 0) → ObjectIs g o (λ x. IsSomeAnd x.ends P) → (x : Object) → slice_get g.objects o ≡ Some x → x.ends ≡ None → ⊥
    without_ends P h x at ends =
        let t = there g.objects o (λ (x : Object). IsSomeAnd x.ends P) h in
        subst (λ (v : Option Ends). IsSomeAnd v P) (ap (λ (v : Object). v.ends) (same_some t.0 x _ t.1 at) ∙ ends) t.2

  -- a standing object with such ends
  standing_ends : (o : ℕ) (P Q : Ends → Type 0) → ((n : Ends) → P n → Q n) → Stands g o → ObjectIs g o (λ x. IsSomeAnd x.ends P) → ObjectIs g o (λ x. IsTrue x.standing × IsSomeAnd x.ends Q)
  standing_ends o P Q each stands h =
      let s = there g.objects o _ stands in
      let t = there g.objects o (λ (x : Object). IsSomeAnd x.ends P) h in
      here g.objects o _ s.0 s.1 (s.2, each_some s.0.ends (subst (λ (x : Object). IsSomeAnd x.ends P) (same_some t.0 s.0 _ t.1 s.1) t.2))
    where
      each_some : (e : Option Ends) → IsSomeAnd e P → IsSomeAnd e Q
      each_some None k = absurd k
      each_some (Some n) k = each n k

  module _ (near far : Ends → ℕ) (is_end : (n : Ends) (a : ℕ) → near n ≡ a → (n.source ≡ a) ⊎ (n.target ≡ a)) where
    abbrev pub JoinsBy : ℕ → ℕ → Type 0
    JoinsBy o p = ObjectIs g p (λ x. IsSomeAnd x.ends (λ n. near n ≡ o)) ⊎ ObjectIs g o (λ x. IsSomeAnd x.ends (λ n. far n ≡ p))

    -- from an edge it leads to one end alone
    edge_one : Good g → (o p : ℕ) (x : Object) (n : Ends) → slice_get g.objects o ≡ Some x → x.ends ≡ Some n → Stands g p → JoinsBy o p → far n ≡ p
    edge_one good o p x n at ends stands (inl h) =
        let end : HasEnd g p o = standing_ends p _ _ (λ m e. is_end m o e) stands h in
        let node = there g.objects o _ (good.ends_stand p o end) in
        let none : x.ends ≡ None = subst (λ (v : Object). v.ends ≡ None) (same_some node.0 x _ node.1 at) node.2.1 in
        absurd (let no : ⊥ = (let e : None ≡ Some n = sym none ∙ ends in cc) in no)
    edge_one good o p x n at ends stands (inr h) = with_ends o (λ m. far m ≡ p) h x n at ends

    -- from a node to the edges that it is the near end of
    node_edge : (o p : ℕ) (x : Object) → slice_get g.objects o ≡ Some x → x.ends ≡ None → Stands g p → JoinsBy o p → ObjectIs g p (λ y. IsTrue y.standing × IsSomeAnd y.ends (λ n. near n ≡ o))
    node_edge o p x at ends stands (inl h) = standing_ends p _ _ (λ m e. e) stands h
    node_edge o p x at ends stands (inr h) = absurd (without_ends o (λ m. far m ≡ p) h x at ends)

    edge_node : (o p : ℕ) → ObjectIs g p (λ y. IsTrue y.standing × IsSomeAnd y.ends (λ n. near n ≡ o)) → Stands g p × JoinsBy o p
    edge_node o p h = let t = there g.objects p _ h in (here g.objects p _ t.0 t.1 t.2.0, inl (here g.objects p _ t.0 t.1 t.2.1))

source_end : (n : Ends) (a : ℕ) → n.source ≡ a → (n.source ≡ a) ⊎ (n.target ≡ a)
source_end n a e = inl e

target_end : (n : Ends) (a : ℕ) → n.target ≡ a → (n.source ≡ a) ⊎ (n.target ≡ a)
target_end n a e = inr e

-- the end that the direction leads to is where it leads from an edge
module _ (g : Graph) (good : Good g) where
  to_end : (d : Direction) (o p : ℕ) (x : Object) (n : ObjNo × ObjNo) → slice_get g.objects o ≡ Some x → ends_of (Some n) ≡ x.ends → Stands g p → Joins d g o p → (far_end d n).0 ≡ p
  to_end to.Forward o p x n at ends stands h = edge_one g (λ m. m.source) (λ m. m.target) source_end good o p x _ at (sym ends) stands h
  to_end to.Backward o p x n at ends stands h = edge_one g (λ m. m.target) (λ m. m.source) target_end good o p x _ at (sym ends) stands h

  joins_end : (d : Direction) (o : ℕ) (x : Object) (n : ObjNo × ObjNo) → slice_get g.objects o ≡ Some x → ends_of (Some n) ≡ x.ends → Joins d g o (far_end d n).0
  joins_end to.Forward o x n at ends = inr (here g.objects o _ x at (subst (λ (v : Option Ends). IsSomeAnd v (λ m. m.target ≡ n.1.0)) ends refl))
  joins_end to.Backward o x n at ends = inr (here g.objects o _ x at (subst (λ (v : Option Ends). IsSomeAnd v (λ m. m.source ≡ n.0.0)) ends refl))

  to_edge : (d : Direction) (o p : ℕ) (x : Object) → slice_get g.objects o ≡ Some x → ends_of None ≡ x.ends → Stands g p → Joins d g o p → LeadsToEdge d g o p
  to_edge to.Forward o p x at ends stands h = node_edge g (λ m. m.source) (λ m. m.target) source_end o p x at (sym ends) stands h
  to_edge to.Backward o p x at ends stands h = node_edge g (λ m. m.target) (λ m. m.source) target_end o p x at (sym ends) stands h

  joins_edge : (d : Direction) (o p : ℕ) → LeadsToEdge d g o p → Stands g p × Joins d g o p
  joins_edge to.Forward o p h = edge_node g (λ m. m.source) (λ m. m.target) source_end o p h
  joins_edge to.Backward o p h = edge_node g (λ m. m.target) (λ m. m.source) target_end o p h

  module _ (targets : Scope) (zone : Bounds) (d : Direction) (o : ObjNo) where
    pub edge_steps : (n : ObjNo × ObjNo) → ObjectIs g o.0 (λ x. ends_of (Some n) ≡ x.ends) → (x y : Point) → StepTo targets g zone o (far_end d n) x y ↔ StepsFrom d targets g zone o x y
    edge_steps n is x y =
        let t = there g.objects o.0 _ is in (
          λ s. (far_end d n, joins_end d o.0 t.0 n t.1 t.2, s),
          λ h.
              let e = to_end d o.0 (h.0).0 t.0 n t.1 t.2 h.2.stands h.1 in
              subst (λ (v : ObjNo). StepTo targets g zone o v x y) (sym (number_ext (far_end d n) h.0 e)) h.2,
        )

    pub node_steps : (edges : List ObjNo) → ObjectIs g o.0 (λ x. ends_of None ≡ x.ends) → StandingAreNumbers g (LeadsToEdge d g o.0) edges → (x y : Point) → StepToOne targets g zone o edges x y ↔ StepsFrom d targets g zone o x y
    node_steps edges is are x y =
        let t = there g.objects o.0 _ is in (
          λ s.
              let j = joins_edge d o.0 (s.0).0 (are.only (s.0).0 (among_number edges s.0 s.1) s.2.stands) in
              (s.0, j.1, s.2),
          λ h.
              let w = number_among edges (h.0).0 (are.whole (h.0).0 (to_edge d o.0 (h.0).0 t.0 t.1 t.2 h.2.stands h.1)) in
              (w.0, w.1, subst (λ (v : ObjNo). StepTo targets g zone o v x y) (number_ext h.0 w.0 (sym w.2)) h.2),
        )
