-- What holds of each pair of points that a path leads between.
use Rattle.std.proofs.Common.{◌≡◌, List, [], ◌∷◌, Bool, true, false, ◌&&◌, inl, inr, refl, sym, ap, subst, ◌∙◌, true≢false}
use Rattle.std.specs.Prelude.{IsTrue}
use Rattle.itpg_base.specs.Graphs.{Graph}
use Rattle.itpg_base.specs.Points.{Point, Relation, IsAt}
use Rattle.path_ast.specs.Terms.{PathTerm, OfTest, Forward, Backward, Next, Previous, Sequence, Choice, Repetition}
use Rattle.itpg_base.specs.Walks.{IsWalk}
use Rattle.path_ast.specs.Meaning.{Rel, keeps_object}

and_left : (a b : Bool) → IsTrue (a && b) → IsTrue a
and_left true b h = refl
and_left false b h = h

and_right : (a b : Bool) → IsTrue (a && b) → IsTrue b
and_right true b h = h
and_right false b h = absurd (true≢false (sym h))

-- a walk keeps its object where each of its steps does
walk_keeps : (R : Relation) → ((x y : Point) → R x y → x.object ≡ y.object) → (x : Point) (zs : List Point) (y : Point) → IsWalk R x zs y → x.object ≡ y.object
walk_keeps R each x [] y walk = ap (λ (z : Point). z.object) walk
walk_keeps R each x (z ∷ zs) y walk = each x z walk.0 ∙ walk_keeps R each z zs y walk.1

pub keeps : (p : PathTerm) (g : Graph) (x y : Point) → IsTrue (keeps_object p) → Rel p g x y → x.object ≡ y.object
keeps (OfTest c) g x y k h = ap (λ (z : Point). z.object) (sym h.1)
keeps Forward g x y k h = absurd (true≢false (sym k))
keeps Backward g x y k h = absurd (true≢false (sym k))
keeps Next g x y k h = sym h.2.0
keeps Previous g x y k h = sym h.2.0
keeps (Sequence p q) g x y k h = keeps p g x h.0 (and_left (keeps_object p) _ k) h.1 ∙ keeps q g h.0 y (and_right (keeps_object p) _ k) h.2
keeps (Choice p q) g x y k (inl h) = keeps p g x y (and_left (keeps_object p) _ k) h
keeps (Choice p q) g x y k (inr h) = keeps q g x y (and_right (keeps_object p) _ k) h
keeps (Repetition p n m) g x y k h = walk_keeps (Rel p g) (λ a b. keeps p g a b k) x h.1.0 y h.1.2

-- a walk from a point of the graph ends at one
walk_ends : (g : Graph) (R : Relation) → ((x y : Point) → R x y → IsAt g y) → (x : Point) (zs : List Point) (y : Point) → IsAt g x → IsWalk R x zs y → IsAt g y
walk_ends g R each x [] y at walk = subst (λ (z : Point). IsAt g z) walk at
walk_ends g R each x (z ∷ zs) y at walk = walk_ends g R each z zs y (each x z walk.0) walk.1

pub starts_at : (p : PathTerm) (g : Graph) (x y : Point) → Rel p g x y → IsAt g x
starts_at (OfTest c) g x y h = h.0
starts_at Forward g x y h = h.0
starts_at Backward g x y h = h.0
starts_at Next g x y h = h.0
starts_at Previous g x y h = h.0
starts_at (Sequence p q) g x y h = starts_at p g x h.0 h.1
starts_at (Choice p q) g x y (inl h) = starts_at p g x y h
starts_at (Choice p q) g x y (inr h) = starts_at q g x y h
starts_at (Repetition p n m) g x y h = h.0

pub ends_at : (p : PathTerm) (g : Graph) (x y : Point) → Rel p g x y → IsAt g y
ends_at (OfTest c) g x y h = subst (λ (z : Point). IsAt g z) (sym h.1) h.0
ends_at Forward g x y h = h.1
ends_at Backward g x y h = h.1
ends_at Next g x y h = h.1
ends_at Previous g x y h = h.1
ends_at (Sequence p q) g x y h = ends_at q g h.0 y h.2
ends_at (Choice p q) g x y (inl h) = ends_at p g x y h
ends_at (Choice p q) g x y (inr h) = ends_at q g x y h
ends_at (Repetition p n m) g x y h = walk_ends g (Rel p g) (λ a b. ends_at p g a b) x h.1.0 y h.0 h.1.2
