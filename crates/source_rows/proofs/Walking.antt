-- Where a path leads, a walk of its steps leads.
use Rattle.std.proofs.Common.{◌≡◌, ◌⊎◌, inl, inr, ℕ, suc, ◌+◌, List, [], ◌∷◌, ◌++◌, length, Option, Some, None, refl, sym, ap, subst, arith, length-append}
use Rattle.std.specs.Prelude.{IsTrue, IsSomeAnd, slice_get}
use Rattle.itpg_base.specs.Graphs.{Graph, Ends, Object, Stands, HasEnd}
use Rattle.itpg_base.specs.Points.{Point, Relation}
use Rattle.itpg_base.specs.Walks.{IsWalk}
use Rattle.path_ast.specs.Terms.{PathTerm, OfTest, Forward, Backward, Next, Previous, Sequence, Choice, Repetition}
use Rattle.path_ast.specs.Meaning.{Rel, HasSource, HasTarget}
use Rattle.source_rows.specs.Steps.{path_steps, IsUpTo}
use Rattle.source_rows.specs.Reach.{IsStep, IsReached}
use Rattle.source_rows.proofs.Bounds.{upto_none, upto_sum, upto_left, upto_right, upto_times, IsUpToTimes, times_none, times_more}

-- a walk and then another
pub walk_join : {P : Type 0} (R : P → P → Type 0) (x : P) (zs : List P) (y : P) (ws : List P) (z : P) → IsWalk R x zs y → IsWalk R y ws z → IsWalk R x (zs ++ ws) z
walk_join R x [] y ws z walk more = subst (λ v. IsWalk R v ws z) (sym walk) more
walk_join R x (v ∷ zs) y ws z walk more = (walk.0, walk_join R v zs y ws z walk.1 more)

-- the end of a standing edge
pub source_end : (g : Graph) (e a : ℕ) → Stands g e → HasSource g e a → HasEnd g e a
source_end g e a stands h = at_place (slice_get g.objects e) stands h
  where
    of_ends : (n : Option Ends) → IsSomeAnd n (λ m. m.source ≡ a) → IsSomeAnd n (λ m. (m.source ≡ a) ⊎ (m.target ≡ a))
    of_ends None k = k
    of_ends (Some m) k = inl k

    at_place : (o : Option Object) → IsSomeAnd o (λ x. IsTrue x.standing) → IsSomeAnd o (λ x. IsSomeAnd x.ends (λ n. n.source ≡ a)) → IsSomeAnd o (λ x. IsTrue x.standing × IsSomeAnd x.ends (λ n. (n.source ≡ a) ⊎ (n.target ≡ a)))
    at_place None s k = k
    at_place (Some x) s k = (s, of_ends x.ends k)

pub target_end : (g : Graph) (e a : ℕ) → Stands g e → HasTarget g e a → HasEnd g e a
target_end g e a stands h = at_place (slice_get g.objects e) stands h
  where
    of_ends : (n : Option Ends) → IsSomeAnd n (λ m. m.target ≡ a) → IsSomeAnd n (λ m. (m.source ≡ a) ⊎ (m.target ≡ a))
    of_ends None k = k
    of_ends (Some m) k = inr k

    at_place : (o : Option Object) → IsSomeAnd o (λ x. IsTrue x.standing) → IsSomeAnd o (λ x. IsSomeAnd x.ends (λ n. n.target ≡ a)) → IsSomeAnd o (λ x. IsTrue x.standing × IsSomeAnd x.ends (λ n. (n.source ≡ a) ⊎ (n.target ≡ a)))
    at_place None s k = k
    at_place (Some x) s k = (s, of_ends x.ends k)

-- one step of an axis
pub forward_step : (g : Graph) (x y : Point) → Rel Forward g x y → IsStep g x.object y.object
forward_step g x y h = elim (h.2.1) [
  | inl source ↦ inl (source_end g y.object x.object h.1.stands source)
  | inr target ↦ inr (target_end g x.object y.object h.0.stands target)
]

pub backward_step : (g : Graph) (x y : Point) → Rel Backward g x y → IsStep g x.object y.object
backward_step g x y h = elim (h.2.1) [
  | inl target ↦ inl (target_end g y.object x.object h.1.stands target)
  | inr source ↦ inr (source_end g x.object y.object h.0.stands source)
]

reached_here : (g : Graph) (o a : ℕ) (bound : Option ℕ) → a ≡ o → IsReached g o bound a
reached_here g o a bound e = ([], upto_none bound, sym e)

pub reached_join : (g : Graph) (o a c : ℕ) (m n sum : Option ℕ) → ((i j : ℕ) → IsUpTo m i → IsUpTo n j → IsUpTo sum (i + j)) → IsReached g o m a → IsReached g a n c → IsReached g o sum c
reached_join g o a c m n sum both h k = (
  h.0 ++ k.0,
  subst (λ i. IsUpTo sum i) (sym (length-append h.0 k.0)) (both (length h.0) (length k.0) h.1 k.1),
  walk_join (IsStep g) o h.0 a k.0 c h.2 k.2,
)

pub reached_wider : (g : Graph) (o a : ℕ) (m n : Option ℕ) → ((i : ℕ) → IsUpTo m i → IsUpTo n i) → IsReached g o m a → IsReached g o n a
reached_wider g o a m n wider h = (h.0, wider (length h.0) h.1, h.2)

-- a walk of at most k times the bound
abbrev pub IsReachedTimes : Graph → ℕ → Option ℕ → ℕ → ℕ → Type 0
IsReachedTimes g o bound k a = (zs : List ℕ) × IsUpToTimes bound k (length zs) × IsWalk (IsStep g) o zs a

-- along a walk of a relation each of whose steps is such a walk
pub walk_reached : (g : Graph) (R : Relation) (bound : Option ℕ) → ((x y : Point) → R x y → IsReached g x.object bound y.object) → (x : Point) (zs : List Point) (y : Point) → IsWalk R x zs y → IsReachedTimes g x.object bound (length zs) y.object
walk_reached g R bound each x [] y walk = ([], times_none bound 0, ap (λ (z : Point). z.object) walk)
walk_reached g R bound each x (z ∷ zs) y walk =
    let first = each x z walk.0 in
    let rest = walk_reached g R bound each z zs y walk.1 in (
      first.0 ++ rest.0,
      subst (λ i. IsUpToTimes bound (suc (length zs)) i) (sym (length-append first.0 rest.0)) (times_more bound (length zs) (length first.0) (length rest.0) first.1 rest.1),
      walk_join (IsStep g) x.object first.0 z.object rest.0 y.object first.2 rest.2,
    )

-- where a path leads, a walk of at most its steps leads
pub path_reached : (p : PathTerm) (g : Graph) (x y : Point) → Rel p g x y → IsReached g x.object (path_steps p) y.object
path_reached (OfTest c) g x y h = reached_here g x.object y.object (path_steps (OfTest c)) (ap (λ (z : Point). z.object) h.1)
path_reached Forward g x y h = (y.object ∷ [], omega arith, (forward_step g x y h, refl))
path_reached Backward g x y h = (y.object ∷ [], omega arith, (backward_step g x y h, refl))
path_reached Next g x y h = reached_here g x.object y.object (Some 0) h.2.0
path_reached Previous g x y h = reached_here g x.object y.object (Some 0) h.2.0
path_reached (Sequence p q) g x y h = reached_join g x.object h.0.object y.object (path_steps p) (path_steps q) _ (upto_sum (path_steps p) (path_steps q)) (path_reached p g x h.0 h.1) (path_reached q g h.0 y h.2)
path_reached (Choice p q) g x y (inl h) = reached_wider g x.object y.object (path_steps p) _ (upto_left (path_steps p) (path_steps q)) (path_reached p g x y h)
path_reached (Choice p q) g x y (inr h) = reached_wider g x.object y.object (path_steps q) _ (upto_right (path_steps p) (path_steps q)) (path_reached q g x y h)
path_reached (Repetition p n m) g x y h =
    let walk = walk_reached g (Rel p g) (path_steps p) (path_reached p g) x h.1.0 y h.1.2 in
    (walk.0, upto_times (path_steps p) m (length h.1.0) (length walk.0) h.1.1.1 walk.1, walk.2)
