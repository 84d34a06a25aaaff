-- What a path and a test mean on a graph, moment by moment.
--
-- From Arenas, Bahamondes, Aghasadeghi, Stoyanovich, "Temporal Regular Path Queries", ICDE 2022: the tests; the four
-- axes, forward and backward along an edge, next and previous in time; that a path means a set of quadruples of an
-- object and a moment twice; and that paths are joined by composition, union and repetition.
--
-- This project's own: the axes in full, as the four definitions below have them. Each axis leads between points, that
-- is, standing objects at moments of the horizon, and none asks that an object exists there: the test of existence
-- does. The zeroth power of a path is the identity on all points.
use Rattle.std.specs.Prelude.{◌≡◌, ℕ, pos, ◌+ℤ◌, ◌-ℤ◌, ◌<ℤ◌, ◌⊎◌, Bool, true, false, ◌&&◌, None, IsSome, IsSomeAnd, Contains}
use Rattle.itpg_base.specs.Graphs.{Graph, ObjectIs, Exists, Val}
use Rattle.itpg_base.specs.Points.{Point, Relation, IsAt}
use Rattle.path_ast.specs.Terms.{PathTerm, OfTest, Forward, Backward, Next, Previous, Sequence, Choice, Repetition, TestTerm, IsNode, IsEdge, HasLabel, HasValue, IsBelow, DoesExist, Condition, Conjunction, Disjunction, Negation}
use Rattle.path_ast.specs.Walks.{Repeated}

-- the object is a node
abbrev pub IsNodeOf : Graph → ℕ → Type 0
IsNodeOf g o = ObjectIs g o (λ x. x.ends ≡ None)

-- the object is an edge
abbrev pub IsEdgeOf : Graph → ℕ → Type 0
IsEdgeOf g o = ObjectIs g o (λ x. IsSome x.ends)

-- the object e is an edge from o
abbrev pub HasSource : Graph → ℕ → ℕ → Type 0
HasSource g e o = ObjectIs g e (λ x. IsSomeAnd x.ends (λ n. n.source ≡ o))

-- the object e is an edge to o
abbrev pub HasTarget : Graph → ℕ → ℕ → Type 0
HasTarget g e o = ObjectIs g e (λ x. IsSomeAnd x.ends (λ n. n.target ≡ o))

-- at one moment, from the source of an edge to the edge, or from an edge to its target
abbrev pub LeadsForward : Graph → Point → Point → Type 0
LeadsForward g x y = (y.moment ≡ x.moment) × (HasSource g y.object x.object ⊎ HasTarget g x.object y.object)

-- at one moment, from the target of an edge to the edge, or from an edge to its source
abbrev pub LeadsBackward : Graph → Point → Point → Type 0
LeadsBackward g x y = (y.moment ≡ x.moment) × (HasTarget g y.object x.object ⊎ HasSource g x.object y.object)

-- on one object, from a moment to the next
abbrev pub LeadsNext : Point → Point → Type 0
LeadsNext x y = (y.object ≡ x.object) × (y.moment ≡ x.moment +ℤ pos 1)

-- on one object, from a moment to the one before
abbrev pub LeadsPrevious : Point → Point → Type 0
LeadsPrevious x y = (y.object ≡ x.object) × (y.moment ≡ x.moment -ℤ pos 1)

-- both are points of the graph, and the fact holds
abbrev pub BetweenPoints : Graph → Point → Point → Type 0 → Type 0
BetweenPoints g x y fact = IsAt g x × IsAt g y × fact

-- the path leads from x to y, and the test holds at x. A negation holds at each point where its test doesn't, whether
-- the object exists there or not
abbrev mutual
  pub Rel : PathTerm → Graph → Relation
  Rel (OfTest c) g x y = IsAt g x × (y ≡ x) × Sat c g x
  Rel Forward g x y = BetweenPoints g x y (LeadsForward g x y)
  Rel Backward g x y = BetweenPoints g x y (LeadsBackward g x y)
  Rel Next g x y = BetweenPoints g x y (LeadsNext x y)
  Rel Previous g x y = BetweenPoints g x y (LeadsPrevious x y)
  Rel (Sequence p q) g x y = (z : Point) × Rel p g x z × Rel q g z y
  Rel (Choice p q) g x y = Rel p g x y ⊎ Rel q g x y
  Rel (Repetition p n m) g x y = Repeated g (Rel p g) n m x y

  pub Sat : TestTerm → Graph → Point → Type 0
  Sat IsNode g x = IsNodeOf g x.object
  Sat IsEdge g x = IsEdgeOf g x.object
  Sat (HasLabel label) g x = ObjectIs g x.object (λ o. Contains o.labels label)
  Sat (HasValue prop value) g x = Val g x.object prop x.moment value
  Sat (IsBelow k) g x = x.moment <ℤ k
  Sat DoesExist g x = Exists g x.object x.moment
  Sat (Condition p) g x = (y : Point) × Rel p g x y
  Sat (Conjunction c d) g x = Sat c g x × Sat d g x
  Sat (Disjunction c d) g x = Sat c g x ⊎ Sat d g x
  Sat (Negation c) g x = ¬ Sat c g x

-- whether the form of a path keeps its object: no forward or backward axis is in it, but in a condition
abbrev pub keeps_object : PathTerm → Bool
keeps_object (OfTest c) = true
keeps_object Forward = false
keeps_object Backward = false
keeps_object Next = true
keeps_object Previous = true
keeps_object (Sequence p q) = keeps_object p && keeps_object q
keeps_object (Choice p q) = keeps_object p && keeps_object q
keeps_object (Repetition p n m) = keeps_object p
