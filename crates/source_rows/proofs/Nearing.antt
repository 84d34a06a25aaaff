-- The neighbourhood of an object agrees with its graph on all that is reached.
use Rattle.std.proofs.Common.{◌≡◌, inl, inr, ℕ, List, [], ◌∷◌, Option, Some, None, sym, ◌∙◌, subst, true, true≢false}
use Rattle.std.specs.Prelude.{IsTrue, option_map, slice_get, ◌↔◌}
use Rattle.itpg_base.specs.Graphs.{Graph, Object, Stands, HasEnd}
use Rattle.itpg_base.specs.Points.{Point}
use Rattle.itpg_base.specs.Walks.{IsWalk}
use Rattle.itpg_base.proofs.Objects.{there, here}
use Rattle.path_ast.specs.Terms.{PathTerm}
use Rattle.path_ast.specs.Meaning.{Rel}
use Rattle.path_ast.proofs.Pairs.{ends_at}
use Rattle.itpg_graph.specs.Changes.{dropped}
use Rattle.source_rows.specs.Steps.{path_steps}
use Rattle.source_rows.specs.Reach.{IsStep, IsReached, Reach}
use Rattle.itpg_graph.specs.GraphParts.{IsOnly}
use Rattle.source_rows.specs.Near.{IsNear, StandsAs, AgreeOn, Agree}
use Rattle.source_rows.proofs.Walking.{path_reached}
use Rattle.source_rows.proofs.Agreeing.{turned, IsRoomy, rel_moved}

-- a dropped object doesn't stand
not_dropped : (o : Option Object) (x : Object) → option_map dropped o ≡ Some x → IsTrue x.standing → ⊥
not_dropped None x e stands = let never : ⊥ = cc in never
not_dropped (Some y) x e stands =
    let same : dropped y ≡ x = cc in
    true≢false (sym (subst (λ (z : Object). z.standing ≡ true) (sym same) stands))

-- what stands in a part stands in the whole, and is in the set
pub part_is : (g : Graph) (S : ℕ → Type 0) (part : Graph) → IsOnly g S part → (o : ℕ) (x : Object) → StandsAs part o x → S o × StandsAs g o x
part_is g S part only o x h = elim (only.each o) [
  | inl k ↦ (k.0, record { is = sym k.1 ∙ h.is; stands = h.stands })
  | inr k ↦ absurd (not_dropped (slice_get g.objects o) x (sym k.1 ∙ h.is) h.stands)
]

pub part_has : (g : Graph) (S : ℕ → Type 0) (part : Graph) → IsOnly g S part → (o : ℕ) (x : Object) → S o → StandsAs g o x → StandsAs part o x
part_has g S part only o x s h = elim (only.each o) [
  | inl k ↦ record { is = k.1 ∙ h.is; stands = h.stands }
  | inr k ↦ absurd (k.0 s)
]

pub standing_as : (g : Graph) (o : ℕ) → Stands g o → (x : Object) × StandsAs g o x
standing_as g o h = let t = there g.objects o (λ x. IsTrue x.standing) h in (t.0, record { is = t.1; stands = t.2 })

pub as_standing : (g : Graph) (o : ℕ) (x : Object) → StandsAs g o x → Stands g o
as_standing g o x h = here g.objects o (λ y. IsTrue y.standing) x h.is h.stands

-- an edge of a part is one of the whole
part_end : (g : Graph) (S : ℕ → Type 0) (part : Graph) → IsOnly g S part → (e a : ℕ) → HasEnd part e a → HasEnd g e a
part_end g S part only e a h =
    let t = there part.objects e _ h in
    let k = part_is g S part only e t.0 (record { is = t.1; stands = t.2.0 }) in
    here g.objects e _ t.0 k.1.is t.2

part_step : (g : Graph) (S : ℕ → Type 0) (part : Graph) → IsOnly g S part → (a b : ℕ) → IsStep part a b → IsStep g a b
part_step g S part only a b (inl h) = inl (part_end g S part only b a h)
part_step g S part only a b (inr h) = inr (part_end g S part only a b h)

pub walk_each : {P : Type 0} (R Q : P → P → Type 0) → ((x y : P) → R x y → Q x y) → (x : P) (zs : List P) (y : P) → IsWalk R x zs y → IsWalk Q x zs y
walk_each R Q each x [] y walk = walk
walk_each R Q each x (z ∷ zs) y walk = (each x z walk.0, walk_each R Q each z zs y walk.1)

pub part_reached : (g : Graph) (S : ℕ → Type 0) (part : Graph) → IsOnly g S part → (o : ℕ) (bound : Option ℕ) (a : ℕ) → IsReached part o bound a → IsReached g o bound a
part_reached g S part only o bound a h = (h.0, h.1, walk_each (IsStep part) (IsStep g) (part_step g S part only) o h.0 a h.2)

-- the neighbourhood agrees with the graph on what is reached
pub near_agrees : (g near : Graph) (o : ℕ) (bound : Option ℕ) → IsNear g o bound near → AgreeOn (IsReached g o bound) g near
near_agrees g near o bound is = record {
  begun = sym is.begun;
  same = λ a x s. (
    (λ h. part_has g (Reach g o bound) near is a x (as_standing g a x h, inl s) h),
    (λ h. (part_is g (Reach g o bound) near is a x h).1),
  );
}

pub neighbourhood : (p : PathTerm) (g near : Graph) (x y : Point) → IsNear g x.object (path_steps p) near → Rel p g x y ↔ Rel p near x y
neighbourhood p g near x y is =
    let S = IsReached g x.object (path_steps p) in
    let agree = near_agrees g near x.object (path_steps p) is in
    let room : IsRoomy S g (path_steps p) x.object = λ a r. r in
    let room_too : IsRoomy S near (path_steps p) x.object = λ a r. part_reached g (Reach g x.object (path_steps p)) near is x.object (path_steps p) a r in
    ((λ r. rel_moved p S g near agree x y room room_too r), (λ r. rel_moved p S near g (turned S g near agree) x y room_too room r))

-- a path ends at an object that is reached
pub path_within : (p : PathTerm) (g : Graph) (x y : Point) → Rel p g x y → Reach g x.object (path_steps p) y.object
path_within p g x y r = let at = ends_at p g x y r in (at.stands, inl (path_reached p g x y r))

-- graphs that agree in all standing objects have the same relations
pub all_agree : (p : PathTerm) (g h : Graph) (x y : Point) → Agree g h → Rel p g x y ↔ Rel p h x y
all_agree p g h x y agree =
    let S = λ (o : ℕ). Unit {0} in
    ((λ r. rel_moved p S g h agree x y (λ a r. tt) (λ a r. tt) r), (λ r. rel_moved p S h g (turned S g h agree) x y (λ a r. tt) (λ a r. tt) r))
