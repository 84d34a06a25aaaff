-- Where a path passes time freely, and horizons that no life reaches.
use Rattle.std.specs.Prelude.{ℕ, ℤ, ◌≤ℤ◌, ◌<ℤ◌, Bool, true, false, ◌&&◌, ◌||◌, not, Option, Some, None, IsSomeAnd, IsTrue, ◌⊎◌}
use Rattle.std.specs.Int.{int_max, int_min}
use Rattle.std.specs.Option.{is_none}
use Rattle.itpg_base.specs.Spans.{Span}
use Rattle.itpg_base.specs.Graphs.{Graph, Exists}
use Rattle.path_ast.specs.Terms.{PathTerm, OfTest, Forward, Backward, Next, Previous, Sequence, Choice, Repetition, TestTerm, IsNode, IsEdge, HasLabel, HasValue, IsBelow, DoesExist, Condition, Conjunction, Disjunction, Negation}
use Rattle.question_hints.specs.declared.passing.Place.{Place}
use Rattle.question_hints.specs.declared.horizon.Lives.{Lives}

-- the path is the test {EXISTS}, or begins with it
abbrev pub begins_existing : PathTerm → Bool
begins_existing (OfTest DoesExist) = true
begins_existing (OfTest c) = false
begins_existing Forward = false
begins_existing Backward = false
begins_existing Next = false
begins_existing Previous = false
begins_existing (Sequence p q) = begins_existing p
begins_existing (Choice p q) = false
begins_existing (Repetition p n m) = false

-- the place of the first of two paths in sequence, before the second
abbrev pub before : PathTerm → Place → Place
before q place = record { endless = place.endless; existing = begins_existing q }

-- the place of the body of a repetition with this upper end, if it has one
abbrev pub within : Option ℕ → Place → Place
within m place = record { endless = place.endless || is_none m; existing = false }

-- the place of a whole path, or of that of a condition: nothing follows
abbrev pub unfollowed : Bool → Place
unfollowed endless = record { endless = endless; existing = false }

-- the path at this place, or a test, has an N or P somewhere that stands within a repetition without an upper end and isn't
-- followed by the test {EXISTS}
abbrev mutual
  pub path_passes : PathTerm → Place → Bool
  path_passes (OfTest c) place = test_passes c place.endless
  path_passes Forward place = false
  path_passes Backward place = false
  path_passes Next place = place.endless && not place.existing
  path_passes Previous place = place.endless && not place.existing
  path_passes (Sequence p q) place = path_passes p (before q place) || path_passes q place
  path_passes (Choice p q) place = path_passes p place || path_passes q place
  path_passes (Repetition p n m) place = path_passes p (within m place)

  pub test_passes : TestTerm → Bool → Bool
  test_passes IsNode endless = false
  test_passes IsEdge endless = false
  test_passes (HasLabel label) endless = false
  test_passes (HasValue prop value) endless = false
  test_passes (IsBelow k) endless = false
  test_passes DoesExist endless = false
  test_passes (Condition p) endless = path_passes p (unfollowed endless)
  test_passes (Conjunction c d) endless = test_passes c endless || test_passes d endless
  test_passes (Disjunction c d) endless = test_passes c endless || test_passes d endless
  test_passes (Negation c) endless = test_passes c endless

-- the path can go through moments at which nothing exists, with no bound on how many
abbrev pub passes_freely : PathTerm → Bool
passes_freely p = path_passes p (unfollowed false)

-- of the moments that are so, these are the first and the last
pub record AreFirstAndLast (P : ℤ → Type 0) (lives : Lives) : Type 0 where
  pub first : P lives.first
  pub last : P lives.last
  pub none_before : (t : ℤ) → P t → lives.first ≤ℤ t
  pub none_after : (t : ℤ) → P t → t ≤ℤ lives.last

-- the same, if some moment is so
abbrev pub AreLivesOf : (ℤ → Type 0) → Option Lives → Type 0
AreLivesOf P None = (t : ℤ) → ¬ P t
AreLivesOf P (Some lives) = AreFirstAndLast P lives

-- the first and the last of the moments that are so by one or the other
abbrev pub joined_lives : Option Lives → Option Lives → Option Lives
joined_lives None b = b
joined_lives (Some a) None = Some a
joined_lives (Some a) (Some b) = Some (record { first = int_min a.first b.first; last = int_max a.last b.last })

-- some object exists at the moment. It stands, since what was dropped exists nowhere
abbrev pub SomeExists : Graph → ℤ → Type 0
SomeExists g t = (o : ℕ) × Exists g o t

-- the span begins before the first of these moments, or ends after the last
abbrev pub IsWider : Span → Lives → Type 0
IsWider horizon lives = (horizon.from <ℤ lives.first) ⊎ (lives.last <ℤ horizon.to)

-- a question with the path passes time at which no object of the graph exists: beyond these moments, the first and the last of all lives
pub record IsUnreached (g : Graph) (p : PathTerm) (lives : Lives) : Type 0 where
  pub free : IsTrue (passes_freely p)
  pub ends : AreFirstAndLast (SomeExists g) lives
  pub wider : IsSomeAnd g.begun (λ b. IsWider b.horizon lives)
