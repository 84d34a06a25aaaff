-- Where a span lies among the runs of a list.
use Rattle.std.specs.Prelude.{◌≡◌, ℕ, ◌≤◌, ℤ, pos, ◌+ℤ◌, ◌≤ℤ◌, ◌<ℤ◌, List, length, take, drop, slice_range, All, Option, None, Some}
use Rattle.itpg_base.specs.Spans.{Span, IsSpan, Within}
use Rattle.itpg_base.specs.Words.{Word}
use Rattle.itpg_base.specs.Graphs.{Valued, RunsHave}

-- the first span ends before the second begins, and at least one moment is missing between them
abbrev pub IsApartBefore : Span → Span → Type 0
IsApartBefore a b = (a.to +ℤ pos 1) <ℤ b.from

-- no moment is missing between the two spans
pub record IsNear (a b : Span) : Type 0 where
  pub from : b.from ≤ℤ (a.to +ℤ pos 1)
  pub to : a.from ≤ℤ (b.to +ℤ pos 1)

-- every moment of the first span is one of the second
pub record IsInside (a b : Span) : Type 0 where
  pub from : b.from ≤ℤ a.from
  pub to : a.to ≤ℤ b.to

-- the runs from the place first to before the place last are those that overlap or touch s
pub record AreNeighbours (runs : List Valued) (s : Span) (first last : ℕ) : Type 0 where
  pub ordered : first ≤ last
  pub within : last ≤ length runs
  pub before : All (λ r. IsApartBefore r.span s) (take first runs)
  pub near : All (λ r. IsNear r.span s) (slice_range runs first last)
  pub after : All (λ r. IsApartBefore s r.span) (drop last runs)

-- the run is the first of the list that ends at the moment or later
pub record IsNextRun (runs : List Valued) (t : ℤ) (run : Valued) : Type 0 where
  pub span : IsSpan run.span
  pub going : t ≤ℤ run.span.to
  pub has : (u : ℤ) → Within u run.span → RunsHave runs u run.value
  pub first : (u : ℤ) (value : Word) → t ≤ℤ u → RunsHave runs u value → run.span.from ≤ℤ u
  pub only : (u : ℤ) (value : Word) → Within u run.span → RunsHave runs u value → run.value ≡ value
  pub after : (u : ℤ) (value : Word) → run.span.to <ℤ u → RunsHave runs u value → run.value ≡ value → (run.span.to +ℤ pos 1) <ℤ u

-- the first run that ends at the moment or later, or none where the list has nothing from the moment on
abbrev pub IsNext : List Valued → ℤ → Option Valued → Type 0
IsNext runs t None = (u : ℤ) (value : Word) → t ≤ℤ u → RunsHave runs u value → ⊥
IsNext runs t (Some run) = IsNextRun runs t run
