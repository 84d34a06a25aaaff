-- What is left of a run beside a span, and how far a run that is put reaches into its neighbours.
use Rattle.std.specs.Prelude.{◌≡◌, ◌≢◌, pos, ◌+ℤ◌, ◌-ℤ◌, ◌≤ℤ◌, ◌<ℤ◌, Option, None, Some, ◌⊎◌}
use Rattle.std.specs.Int.{int_max, int_min}
use Rattle.itpg_base.specs.Spans.{Span}
use Rattle.itpg_base.specs.Graphs.{Valued}

-- the part has the run's moments before the span
pub record IsPartBefore (run : Valued) (s : Span) (part : Valued) : Type 0 where
  pub some : run.span.from <ℤ s.from
  pub value : part.value ≡ run.value
  pub from : part.span.from ≡ run.span.from
  pub to : part.span.to ≡ int_min run.span.to (s.from -ℤ pos 1)

-- the part has the run's moments after the span
pub record IsPartAfter (run : Valued) (s : Span) (part : Valued) : Type 0 where
  pub some : s.to <ℤ run.span.to
  pub value : part.value ≡ run.value
  pub from : part.span.from ≡ int_max run.span.from (s.to +ℤ pos 1)
  pub to : part.span.to ≡ run.span.to

-- what is left of the run before the span, if anything
abbrev pub IsLeftBefore : Valued → Span → Option Valued → Type 0
IsLeftBefore run s None = s.from ≤ℤ run.span.from
IsLeftBefore run s (Some part) = IsPartBefore run s part

-- what is left of the run after the span, if anything
abbrev pub IsLeftAfter : Valued → Span → Option Valued → Type 0
IsLeftAfter run s None = run.span.to ≤ℤ s.to
IsLeftAfter run s (Some part) = IsPartAfter run s part

-- the same of a run that may be missing
abbrev pub LeavesBefore : Option Valued → Span → Option Valued → Type 0
LeavesBefore None s left = left ≡ None
LeavesBefore (Some run) s left = IsLeftBefore run s left

abbrev pub LeavesAfter : Option Valued → Span → Option Valued → Type 0
LeavesAfter None s left = left ≡ None
LeavesAfter (Some run) s left = IsLeftAfter run s left

-- where a run is put behind another: a run of the same value is joined whole, and of another value the moments before are left
abbrev pub MeetsBefore : Option Valued → Valued → Option Valued → Span → Type 0
MeetsBefore None own left reach = (left ≡ None) × (reach ≡ own.span)
MeetsBefore (Some run) own left reach =
    ((run.value ≡ own.value) × (left ≡ None) × (reach ≡ run.span)) ⊎ ((run.value ≢ own.value) × IsLeftBefore run own.span left × (reach ≡ own.span))

-- the same where a run is put before another
abbrev pub MeetsAfter : Option Valued → Valued → Option Valued → Span → Type 0
MeetsAfter None own left reach = (left ≡ None) × (reach ≡ own.span)
MeetsAfter (Some run) own left reach =
    ((run.value ≡ own.value) × (left ≡ None) × (reach ≡ run.span)) ⊎ ((run.value ≢ own.value) × IsLeftAfter run own.span left × (reach ≡ own.span))
