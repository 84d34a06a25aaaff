-- In a good graph forward and backward lead between nodes and edges, and along each edge.
use Rattle.std.proofs.Common.{◌≡◌, ◌⊎◌, inl, inr, ℕ, ℤ, Option, Some, None, refl}
use Rattle.std.specs.Prelude.{IsTrue, IsSome, IsSomeAnd, slice_get}
use Rattle.itpg_base.specs.Graphs.{Graph, Good, Ends, ObjectIs, Stands, InHorizon, HasEnd}
use Rattle.itpg_base.specs.Points.{Point, IsAt}
use Rattle.path_ast.specs.Terms.{Forward}
use Rattle.path_ast.specs.Meaning.{IsNodeOf, IsEdgeOf, HasSource, HasTarget, LeadsForward, LeadsBackward, Rel}

mapped : {X : Type 0} (o : Option X) (P Q : X → Type 0) → ((x : X) → P x → Q x) → IsSomeAnd o P → IsSomeAnd o Q
mapped None P Q each h = h
mapped (Some x) P Q each h = each x h

joined : {X : Type 0} (o : Option X) (P Q : X → Type 0) → IsSomeAnd o P → IsSomeAnd o Q → IsSomeAnd o (λ x. P x × Q x)
joined None P Q p q = p
joined (Some x) P Q p q = (p, q)

is_there : {X : Type 0} (o : Option X) (P : X → Type 0) → IsSomeAnd o P → IsSome o
is_there None P h = absurd h
is_there (Some x) P h = refl

-- of an edge that is so, and that leads from or to o: it is an edge, and o a node
module _ (g : Graph) (good : Good g) (e o : ℕ) (stands : ObjectIs g e (λ x. IsTrue x.standing)) (P : Ends → Type 0) (is_end : (n : Ends) → P n → (n.source ≡ o) ⊎ (n.target ≡ o)) (leads : ObjectIs g e (λ x. IsSomeAnd x.ends P)) where
  has_end : HasEnd g e o
  has_end = mapped (slice_get g.objects e) _ _ (λ x h. (h.0, mapped x.ends _ _ is_end h.1)) (joined (slice_get g.objects e) _ _ stands leads)

  end_stands : Stands g o
  end_stands = mapped (slice_get g.objects o) _ _ (λ x h. h.0) (good.ends_stand e o has_end)

  node : IsNodeOf g o
  node = mapped (slice_get g.objects o) _ _ (λ x h. h.1) (good.ends_stand e o has_end)

  edge : IsEdgeOf g e
  edge = mapped (slice_get g.objects e) _ _ (λ x h. is_there x.ends P h) leads

pub forward_kinds : (g : Graph) (x y : Point) → Good g → IsAt g x × IsAt g y × LeadsForward g x y → (IsNodeOf g x.object × IsEdgeOf g y.object) ⊎ (IsEdgeOf g x.object × IsNodeOf g y.object)
forward_kinds g x y good h = elim (h.2.1) [
  | inl source ↦ inl (node g good y.object x.object h.1.stands _ (λ n e. inl e) source, edge g good y.object x.object h.1.stands _ (λ n e. inl e) source)
  | inr target ↦ inr (edge g good x.object y.object h.0.stands _ (λ n e. inr e) target, node g good x.object y.object h.0.stands _ (λ n e. inr e) target)
]

pub backward_kinds : (g : Graph) (x y : Point) → Good g → IsAt g x × IsAt g y × LeadsBackward g x y → (IsNodeOf g x.object × IsEdgeOf g y.object) ⊎ (IsEdgeOf g x.object × IsNodeOf g y.object)
backward_kinds g x y good h = elim (h.2.1) [
  | inl target ↦ inl (node g good y.object x.object h.1.stands _ (λ n e. inr e) target, edge g good y.object x.object h.1.stands _ (λ n e. inr e) target)
  | inr source ↦ inr (edge g good x.object y.object h.0.stands _ (λ n e. inl e) source, node g good x.object y.object h.0.stands _ (λ n e. inl e) source)
]

pub from_source : (g : Graph) (e a : ℕ) (t : ℤ) → Good g → Stands g e → HasSource g e a → InHorizon g t → Rel Forward g (record { object = a; moment = t }) (record { object = e; moment = t })
from_source g e a t good stands source within = (
  record { stands = end_stands g good e a stands _ (λ n h. inl h) source; within = within },
  record { stands = stands; within = within },
  (refl, inl source),
)

pub to_target : (g : Graph) (e b : ℕ) (t : ℤ) → Good g → Stands g e → HasTarget g e b → InHorizon g t → Rel Forward g (record { object = e; moment = t }) (record { object = b; moment = t })
to_target g e b t good stands target within = (
  record { stands = stands; within = within },
  record { stands = end_stands g good e b stands _ (λ n h. inr h) target; within = within },
  (refl, inr target),
)
