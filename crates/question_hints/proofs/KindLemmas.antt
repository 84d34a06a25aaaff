-- A path leads only between the kinds that its form allows.
use Rattle.std.proofs.Common.{◌≡◌, ℕ, List, [], ◌∷◌, ◌⊎◌, inl, inr, Bool, true, false, ◌||◌, ◌&&◌, Option, Some, None, refl, sym, ap, ◌∙◌, subst, true≢false}
use Rattle.std.specs.Prelude.{not, IsSome, IsTrue}
use Rattle.itpg_base.specs.Graphs.{Graph, Ends, Good, ObjectIs}
use Rattle.itpg_base.specs.Points.{Point, Relation, IsAt}
use Rattle.itpg_base.specs.Walks.{IsWalk}
use Rattle.itpg_base.proofs.Objects.{there, here, same_some}
use Rattle.itpg_graph.specs.declared.graph.Kind.{Kind}
use Rattle.itpg_graph.specs.declared.graph.Kind.TheVariants.{Node, Edge}
use Rattle.itpg_graph.specs.Kinds.{kind_by, kind_of}
use Rattle.path_ast.specs.Terms.{PathTerm, OfTest, Forward, Backward, Next, Previous, Sequence, Choice, Repetition, TestTerm, IsNode, IsEdge, HasLabel, HasValue, IsBelow, DoesExist, Condition, Conjunction, Disjunction, Negation}
use Rattle.path_ast.specs.Meaning.{IsNodeOf, IsEdgeOf, Rel, Sat}
use Rattle.path_ast.proofs.Pairs.{starts_at, ends_at}
use Rattle.path_ast.proofs.Axes.{forward_kinds, backward_kinds}
use Rattle.question_hints.specs.declared.kinds.Kinds.{Kinds}
use Rattle.question_hints.specs.declared.kinds.Leads.{Leads}
use Rattle.question_hints.specs.Kinds.{either_kind, staying, crossing, chained, by_either, starts, is_nowhere, leads_of, kinds_of}

-- the object is of the kind
abbrev pub KindIs : Graph → ℕ → Kind → Type 0
KindIs g o k = ObjectIs g o (λ x. kind_of x ≡ k)

-- whether it leads from the one kind to the other
abbrev at : Leads → Kind → Kind → Bool
at l Node Node = l.node_to_node
at l Node Edge = l.node_to_edge
at l Edge Node = l.edge_to_node
at l Edge Edge = l.edge_to_edge

-- whether the kind is among these
abbrev among : Kinds → Kind → Bool
among k Node = k.node
among k Edge = k.edge

some_kind : (g : Graph) (x : Point) → IsAt g x → (k : Kind) × KindIs g x.object k
some_kind g x is = let o = there g.objects x.object _ is.stands in (kind_of o.0, here g.objects x.object _ o.0 o.1 refl)

one_kind : (g : Graph) (o : ℕ) (a b : Kind) → KindIs g o a → KindIs g o b → a ≡ b
one_kind g o a b ka kb =
    let x = there g.objects o _ ka in
    let y = there g.objects o _ kb in
    sym x.2 ∙ ap kind_of (same_some _ _ _ x.1 y.1) ∙ y.2

of_node : (g : Graph) (o : ℕ) → IsNodeOf g o → KindIs g o Node
of_node g o h = let x = there g.objects o _ h in here g.objects o _ x.0 x.1 (ap kind_by x.2)

of_edge : (g : Graph) (o : ℕ) → IsEdgeOf g o → KindIs g o Edge
of_edge g o h = let x = there g.objects o _ h in here g.objects o _ x.0 x.1 (by_ends x.0.ends x.2)
  where
    by_ends : (ends : Option Ends) → IsSome ends → kind_by ends ≡ Edge
    by_ends None h = absurd (true≢false (sym h))
    by_ends (Some n) h = refl

-- of truth values
left_or : (a b : Bool) → a ≡ true → (a || b) ≡ true
left_or true b e = refl
left_or false b e = absurd (true≢false (sym e))

right_or : (a b : Bool) → b ≡ true → (a || b) ≡ true
right_or true b e = refl
right_or false b e = e

both_and : (a b : Bool) → a ≡ true → b ≡ true → (a && b) ≡ true
both_and true b d e = e
both_and false b d e = absurd (true≢false (sym d))

-- of tables of kinds
any_among : (a : Kind) → among either_kind a ≡ true
any_among Node = refl
any_among Edge = refl

stays_at : (k : Kinds) (a : Kind) → among k a ≡ true → at (staying k) a a ≡ true
stays_at k Node e = e
stays_at k Edge e = e

chained_at : (l m : Leads) (a c b : Kind) → at l a c ≡ true → at m c b ≡ true → at (chained l m) a b ≡ true
chained_at l m Node Node Node p q = left_or _ _ (both_and _ _ p q)
chained_at l m Node Node Edge p q = left_or _ _ (both_and _ _ p q)
chained_at l m Node Edge Node p q = right_or _ _ (both_and _ _ p q)
chained_at l m Node Edge Edge p q = right_or _ _ (both_and _ _ p q)
chained_at l m Edge Node Node p q = left_or _ _ (both_and _ _ p q)
chained_at l m Edge Node Edge p q = left_or _ _ (both_and _ _ p q)
chained_at l m Edge Edge Node p q = right_or _ _ (both_and _ _ p q)
chained_at l m Edge Edge Edge p q = right_or _ _ (both_and _ _ p q)

first_at : (l m : Leads) (a b : Kind) → at l a b ≡ true → at (by_either l m) a b ≡ true
first_at l m Node Node e = left_or _ _ e
first_at l m Node Edge e = left_or _ _ e
first_at l m Edge Node e = left_or _ _ e
first_at l m Edge Edge e = left_or _ _ e

second_at : (l m : Leads) (a b : Kind) → at m a b ≡ true → at (by_either l m) a b ≡ true
second_at l m Node Node e = right_or _ _ e
second_at l m Node Edge e = right_or _ _ e
second_at l m Edge Node e = right_or _ _ e
second_at l m Edge Edge e = right_or _ _ e

starts_among : (l : Leads) (a b : Kind) → at l a b ≡ true → among (starts l) a ≡ true
starts_among l Node Node e = left_or _ _ e
starts_among l Node Edge e = right_or _ _ e
starts_among l Edge Node e = left_or _ _ e
starts_among l Edge Edge e = right_or _ _ e

both_among : (j k : Kinds) (a : Kind) → among j a ≡ true → among k a ≡ true → among (record { node = j.node && k.node; edge = j.edge && k.edge }) a ≡ true
both_among j k Node d e = both_and _ _ d e
both_among j k Edge d e = both_and _ _ d e

left_among : (j k : Kinds) (a : Kind) → among j a ≡ true → among (record { node = j.node || k.node; edge = j.edge || k.edge }) a ≡ true
left_among j k Node e = left_or _ _ e
left_among j k Edge e = left_or _ _ e

right_among : (j k : Kinds) (a : Kind) → among k a ≡ true → among (record { node = j.node || k.node; edge = j.edge || k.edge }) a ≡ true
right_among j k Node e = right_or _ _ e
right_among j k Edge e = right_or _ _ e

-- of repetitions, which stay or go on
abbrev going : Leads → Leads
going l = by_either (staying either_kind) l

goes_on : (l : Leads) (a c b : Kind) → at (going l) a c ≡ true → at (going l) c b ≡ true → at (going l) a b ≡ true
goes_on l Node c Node p q = refl
goes_on l Edge c Edge p q = refl
goes_on l Node Node Edge p q = q
goes_on l Node Edge Edge p q = p
goes_on l Edge Node Node p q = p
goes_on l Edge Edge Node p q = q

going_stays : (l : Leads) (a : Kind) → at (going l) a a ≡ true
going_stays l Node = refl
going_stays l Edge = refl

-- of walks
walk_keeps : (g : Graph) (R : Relation) (l : Leads) → ((x y : Point) (a b : Kind) → KindIs g x.object a → KindIs g y.object b → R x y → at l a b ≡ true)
    → ((x y : Point) → R x y → IsAt g y) → (zs : List Point) (x y : Point) (a b : Kind) → KindIs g x.object a → KindIs g y.object b → IsWalk R x zs y → at (going l) a b ≡ true
walk_keeps g R l step ends [] x y a b ka kb same =
    let e : a ≡ b = one_kind g y.object a b (subst (λ (z : Point). KindIs g z.object a) same ka) kb in
    subst (λ k. at (going l) a k ≡ true) e (going_stays l a)
walk_keeps g R l step ends (z ∷ zs) x y a b ka kb w =
    let k = some_kind g z (ends x z w.0) in
    goes_on l a k.0 b (second_at (staying either_kind) l a k.0 (step x z a k.0 ka k.1 w.0)) (walk_keeps g R l step ends zs z y k.0 b k.1 kb w.1)

-- of one step
crosses : (g : Graph) (x y : Point) (a b : Kind) → KindIs g x.object a → KindIs g y.object b
    → (IsNodeOf g x.object × IsEdgeOf g y.object) ⊎ (IsEdgeOf g x.object × IsNodeOf g y.object) → at crossing a b ≡ true
crosses g x y a b ka kb (inl h) =
    let e = one_kind g x.object Node a (of_node g x.object h.0) ka in
    let f = one_kind g y.object Edge b (of_edge g y.object h.1) kb in
    subst (λ k. at crossing k b ≡ true) e (subst (λ k. at crossing Node k ≡ true) f refl)
crosses g x y a b ka kb (inr h) =
    let e = one_kind g x.object Edge a (of_edge g x.object h.0) ka in
    let f = one_kind g y.object Node b (of_node g y.object h.1) kb in
    subst (λ k. at crossing k b ≡ true) e (subst (λ k. at crossing Edge k ≡ true) f refl)

stays_there : (g : Graph) (x y : Point) (k : Kinds) (a b : Kind) → KindIs g x.object a → KindIs g y.object b → y.object ≡ x.object → among k a ≡ true → at (staying k) a b ≡ true
stays_there g x y k a b ka kb same e =
    let f : a ≡ b = one_kind g y.object a b (subst (λ o. KindIs g o a) (sym same) ka) kb in
    subst (λ c. at (staying k) a c ≡ true) f (stays_at k a e)

mutual
  pub path_kinds : (p : PathTerm) (g : Graph) (x y : Point) (a b : Kind) → Good g → KindIs g x.object a → KindIs g y.object b → Rel p g x y → at (leads_of p) a b ≡ true
  path_kinds (OfTest c) g x y a b good ka kb r = stays_there g x y (kinds_of c) a b ka kb (ap (λ (z : Point). z.object) r.1) (test_kinds c g x a good ka r.2)
  path_kinds Forward g x y a b good ka kb r = crosses g x y a b ka kb (forward_kinds g x y good r)
  path_kinds Backward g x y a b good ka kb r = crosses g x y a b ka kb (backward_kinds g x y good r)
  path_kinds Next g x y a b good ka kb r = stays_there g x y either_kind a b ka kb r.2.0 (any_among a)
  path_kinds Previous g x y a b good ka kb r = stays_there g x y either_kind a b ka kb r.2.0 (any_among a)
  path_kinds (Sequence p q) g x y a b good ka kb (z, r, s) =
      let k = some_kind g z (ends_at p g x z r) in
      chained_at (leads_of p) (leads_of q) a k.0 b (path_kinds p g x z a k.0 good ka k.1 r) (path_kinds q g z y k.0 b good k.1 kb s)
  path_kinds (Choice p q) g x y a b good ka kb (inl r) = first_at (leads_of p) (leads_of q) a b (path_kinds p g x y a b good ka kb r)
  path_kinds (Choice p q) g x y a b good ka kb (inr r) = second_at (leads_of p) (leads_of q) a b (path_kinds q g x y a b good ka kb r)
  path_kinds (Repetition p n m) g x y a b good ka kb r =
      walk_keeps g (Rel p g) (leads_of p) (λ u v c d kc kd s. path_kinds p g u v c d good kc kd s) (ends_at p g) r.1.0 x y a b ka kb r.1.2

  test_kinds : (c : TestTerm) (g : Graph) (x : Point) (a : Kind) → Good g → KindIs g x.object a → Sat c g x → among (kinds_of c) a ≡ true
  test_kinds IsNode g x a good ka h = subst (λ k. among (kinds_of IsNode) k ≡ true) (one_kind g x.object Node a (of_node g x.object h) ka) refl
  test_kinds IsEdge g x a good ka h = subst (λ k. among (kinds_of IsEdge) k ≡ true) (one_kind g x.object Edge a (of_edge g x.object h) ka) refl
  test_kinds (HasLabel label) g x a good ka h = any_among a
  test_kinds (HasValue prop value) g x a good ka h = any_among a
  test_kinds (IsBelow k) g x a good ka h = any_among a
  test_kinds DoesExist g x a good ka h = any_among a
  test_kinds (Condition p) g x a good ka (y, r) =
      let k = some_kind g y (ends_at p g x y r) in
      starts_among (leads_of p) a k.0 (path_kinds p g x y a k.0 good ka k.1 r)
  test_kinds (Conjunction c d) g x a good ka h = both_among (kinds_of c) (kinds_of d) a (test_kinds c g x a good ka h.0) (test_kinds d g x a good ka h.1)
  test_kinds (Disjunction c d) g x a good ka (inl h) = left_among (kinds_of c) (kinds_of d) a (test_kinds c g x a good ka h)
  test_kinds (Disjunction c d) g x a good ka (inr h) = right_among (kinds_of c) (kinds_of d) a (test_kinds d g x a good ka h)
  test_kinds (Negation c) g x a good ka h = any_among a

-- what leads nowhere leads from no kind to any
nowhere_at : (l : Leads) (a b : Kind) → is_nowhere l ≡ true → at l a b ≡ true → ⊥
nowhere_at l Node Node e f = true≢false (sym e ∙ ap not (left_or _ _ (left_or _ _ f)))
nowhere_at l Node Edge e f = true≢false (sym e ∙ ap not (left_or _ _ (right_or _ _ f)))
nowhere_at l Edge Node e f = true≢false (sym e ∙ ap not (right_or _ _ (left_or _ _ f)))
nowhere_at l Edge Edge e f = true≢false (sym e ∙ ap not (right_or _ _ (right_or _ _ f)))

pub leads_nowhere : (p : PathTerm) (g : Graph) (x y : Point) → Good g → IsTrue (is_nowhere (leads_of p)) → ¬ Rel p g x y
leads_nowhere p g x y good e r =
    let a = some_kind g x (starts_at p g x y r) in
    let b = some_kind g y (ends_at p g x y r) in
    nowhere_at (leads_of p) a.0 b.0 e (path_kinds p g x y a.0 b.0 good a.1 b.1 r)
