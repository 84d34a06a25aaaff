-- It is decided whether a path leads from a point to another, and whether a test holds: a graph has finitely many
-- points, and a walk of any length has one of fewer steps than there are points.
use Rattle.std.proofs.Common.{◌≡◌, inl, inr, ℕ, zero, suc, ◌+◌, ◌-◌, ◌<◌, ◌≤◌, ℤ, pos, ◌+ℤ◌, ◌-ℤ◌, List, [], ◌∷◌, length, Option, Some, None, refl, sym, arith, true≢false}
use Rattle.std.specs.Prelude.{IsSome, slice_get}
use Rattle.itpg_base.specs.Decided.{Decided}
use Rattle.itpg_base.specs.Spans.{Span, Covers}
use Rattle.itpg_base.specs.Words.{Word}
use Rattle.itpg_base.specs.Graphs.{Graph, Begun, Object, ObjectIs, Ends, Valued, Property, RunsHave, PropertiesHave}
use Rattle.itpg_base.specs.Points.{Point, Relation, IsAt}
use Rattle.itpg_base.proofs.Searches.{both, either, fails, as_well, if_some, before, at_most, same_number, same_moment, same_word, some_below, contains}
use Rattle.itpg_base.proofs.PointSearch.{point_at, same_point, some_point, no_point, in_horizon, within_span, most_points, point_number, point_number-exact, point_number-below}
use Rattle.path_ast.specs.Terms.{PathTerm, OfTest, Forward, Backward, Next, Previous, Sequence, Choice, Repetition, TestTerm, IsNode, IsEdge, HasLabel, HasValue, IsBelow, DoesExist, Condition, Conjunction, Disjunction, Negation}
use Rattle.path_ast.specs.Walks.{IsFromTo, Repeated, Power}
use Rattle.path_ast.specs.Meaning.{HasSource, HasTarget, BetweenPoints, Rel, Sat}
use Rattle.path_ast.proofs.Pairs.{starts_at, ends_at}
use Rattle.path_ast.proofs.Powers.{power_starts, power_ends, walk_power, power_walk, power_join, power_split, repeated_power, power_repeated}
use Rattle.itpg_base.specs.Walks.{AreFewer}
use Rattle.itpg_base.proofs.ShortWalks.{short_walk}

few_points : (g : Graph) (b : Begun) → g.begun ≡ Some b → AreFewer (most_points g b) (IsAt g) (point_number b.horizon)
few_points g b begun = record {
  below = λ x at. point_number-below g b x begun at;
  apart = λ x y at_x at_y e. point_number-exact b.horizon x y (in_horizon g b x begun at_x) (in_horizon g b y begun at_y) e;
}

-- repetition of a decided relation is decided
module _ (g : Graph) (R : Relation) (decide : (x y : Point) → Decided (R x y)) (starts : (x y : Point) → R x y → IsAt g x) (ends : (x y : Point) → R x y → IsAt g y) where
  decide_power : (k : ℕ) (x y : Point) → Decided (Power g R k x y)
  unfolding Power
  decide_power zero x y = both (point_at g x) (same_point x y)
  decide_power (suc k) x y =
      as_well (λ h. (h.0, h.1.0, h.1.1)) (λ h. (h.0, (h.1, h.2)))
      (some_point g (λ z. R x z × Power g R k z y) (λ z. both (decide x z) (decide_power k z y)) (λ z h. ends x z h.0))

  -- some power from the n-th to the m-th
  decide_to : (n m : ℕ) (x y : Point) → Decided ((k : ℕ) × IsFromTo n (Some m) k × Power g R k x y)
  decide_to n m x y =
      as_well (λ h. (h.0, (h.2.0, (let below = h.1 in omega arith)), h.2.1)) (λ h. (h.0, (let top = h.1.1 in omega arith), (h.1.0, h.2)))
      (some_below (suc m) (λ k. (n ≤ k) × Power g R k x y) (λ k. both (at_most n k) (decide_power k x y)))

  -- a power between two points has one below the number of points
  shortened : (b : Begun) → g.begun ≡ Some b → (k : ℕ) (x y : Point) → Power g R k x y → (j : ℕ) × (j < most_points g b) × Power g R j x y
  shortened b begun k x y h =
      let at = power_starts g R starts ends k x y h in
      let walk = power_walk g R starts ends k x y h in
      let short = short_walk (few_points g b begun) R ends x walk.0 y at walk.2 in
      (length short.0, short.1, walk_power g R starts ends x short.0 y at short.2)

  -- some power from the n-th on: the n-th and then one below the number of points
  decide_from : (n : ℕ) (x y : Point) → Decided ((k : ℕ) × IsFromTo n None k × Power g R k x y)
  decide_from n x y = by_begun g.begun refl
    where
      by_begun : (begun : Option Begun) → g.begun ≡ begun → Decided ((k : ℕ) × IsFromTo n None k × Power g R k x y)
      by_begun None none = inr (λ h. no_point g x none (power_starts g R starts ends h.0 x y h.2))
      by_begun (Some b) begun =
          as_well
          (λ h. (n + h.1.1.0, (omega arith, tt), power_join g R starts ends n h.1.1.0 (n + h.1.1.0) x h.0 y refl h.1.0 h.1.1.2))
          (λ h.
          let split = power_split g R starts ends n (h.0 - n) h.0 x y (let least = h.1.0 in omega arith) h.2 in
          (split.0, (split.1, shortened b begun (h.0 - n) split.0 y split.2)))
          (some_point g (λ z. Power g R n x z × ((k : ℕ) × (k < most_points g b) × Power g R k z y))
          (λ z. both (decide_power n x z) (some_below (most_points g b) (λ k. Power g R k z y) (λ k. decide_power k z y)))
          (λ z h. power_ends g R starts ends n x z h.0))

  decide_powers : (n : ℕ) (m : Option ℕ) (x y : Point) → Decided ((k : ℕ) × IsFromTo n m k × Power g R k x y)
  decide_powers n (Some m) x y = decide_to n m x y
  decide_powers n None x y = decide_from n x y

  decide_repeated : (n : ℕ) (m : Option ℕ) (x y : Point) → Decided (Repeated g R n m x y)
  decide_repeated n m x y = as_well (power_repeated g R starts ends n m x y) (repeated_power g R starts ends n m x y) (decide_powers n m x y)

between : (g : Graph) (x y : Point) (fact : Type 0) → Decided fact → Decided (BetweenPoints g x y fact)
between g x y fact d = as_well (λ h. (h.0, h.1.0, h.1.1)) (λ h. (h.0, (h.1, h.2))) (both (point_at g x) (both (point_at g y) d))

object_is : (g : Graph) (o : ℕ) (P : Object → Type 0) → ((x : Object) → Decided (P x)) → Decided (ObjectIs g o P)
object_is g o P each = if_some (slice_get g.objects o) P each

no_ends : (ends : Option Ends) → Decided (ends ≡ None)
no_ends None = inl refl
no_ends (Some n) = inr (λ e. let never : ⊥ = cc in never)

some_ends : (ends : Option Ends) → Decided (IsSome ends)
some_ends None = inr (λ h. true≢false (sym h))
some_ends (Some n) = inl refl

has_source : (g : Graph) (e o : ℕ) → Decided (HasSource g e o)
has_source g e o = object_is g e _ (λ x. if_some x.ends _ (λ n. same_number n.source o))

has_target : (g : Graph) (e o : ℕ) → Decided (HasTarget g e o)
has_target g e o = object_is g e _ (λ x. if_some x.ends _ (λ n. same_number n.target o))

covers : (spans : List Span) (t : ℤ) → Decided (Covers spans t)
covers [] t = inr (λ h. h)
covers (s ∷ rest) t = either (within_span t s) (covers rest t)

runs_have : (runs : List Valued) (t : ℤ) (value : Word) → Decided (RunsHave runs t value)
runs_have [] t value = inr (λ h. h)
runs_have (r ∷ rest) t value = either (both (within_span t r.span) (same_word r.value value)) (runs_have rest t value)

properties_have : (ps : List Property) (name : Word) (t : ℤ) (value : Word) → Decided (PropertiesHave ps name t value)
properties_have [] name t value = inr (λ h. h)
properties_have (p ∷ rest) name t value = either (both (same_word p.name name) (runs_have p.runs t value)) (properties_have rest name t value)

mutual
  pub decide_rel : (p : PathTerm) (g : Graph) (x y : Point) → Decided (Rel p g x y)
  decide_rel (OfTest c) g x y = as_well (λ h. (h.0, h.1.0, h.1.1)) (λ h. (h.0, (h.1, h.2))) (both (point_at g x) (both (same_point y x) (decide_sat c g x)))
  decide_rel Forward g x y = between g x y _ (both (same_moment y.moment x.moment) (either (has_source g y.object x.object) (has_target g x.object y.object)))
  decide_rel Backward g x y = between g x y _ (both (same_moment y.moment x.moment) (either (has_target g y.object x.object) (has_source g x.object y.object)))
  decide_rel Next g x y = between g x y _ (both (same_number y.object x.object) (same_moment y.moment (x.moment +ℤ pos 1)))
  decide_rel Previous g x y = between g x y _ (both (same_number y.object x.object) (same_moment y.moment (x.moment -ℤ pos 1)))
  decide_rel (Sequence p q) g x y =
      as_well (λ h. (h.0, h.1.0, h.1.1)) (λ h. (h.0, (h.1, h.2)))
      (some_point g (λ z. Rel p g x z × Rel q g z y) (λ z. both (decide_rel p g x z) (decide_rel q g z y)) (λ z h. ends_at p g x z h.0))
  decide_rel (Choice p q) g x y = either (decide_rel p g x y) (decide_rel q g x y)
  decide_rel (Repetition p n m) g x y = decide_repeated g (Rel p g) (decide_rel p g) (starts_at p g) (ends_at p g) n m x y

  pub decide_sat : (c : TestTerm) (g : Graph) (x : Point) → Decided (Sat c g x)
  decide_sat IsNode g x = object_is g x.object _ (λ o. no_ends o.ends)
  decide_sat IsEdge g x = object_is g x.object _ (λ o. some_ends o.ends)
  decide_sat (HasLabel label) g x = object_is g x.object _ (λ o. contains o.labels label)
  decide_sat (HasValue prop value) g x = object_is g x.object _ (λ o. properties_have o.properties prop x.moment value)
  decide_sat (IsBelow k) g x = before x.moment k
  decide_sat DoesExist g x = object_is g x.object _ (λ o. covers o.live x.moment)
  decide_sat (Condition p) g x = some_point g (λ y. Rel p g x y) (λ y. decide_rel p g x y) (λ y h. ends_at p g x y h)
  decide_sat (Conjunction c d) g x = both (decide_sat c g x) (decide_sat d g x)
  decide_sat (Disjunction c d) g x = either (decide_sat c g x) (decide_sat d g x)
  decide_sat (Negation c) g x = fails (decide_sat c g x)
