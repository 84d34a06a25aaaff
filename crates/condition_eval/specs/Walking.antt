-- For the crate's own walks along one-time rows: orders of rows, and what a step adds.
use Rattle.std.specs.Prelude.{◌≡◌, ◌⊎◌, ◌<◌, ℤ, ◌≤ℤ◌, ◌<ℤ◌, List, ◌++◌, map}
use Rattle.itpg_base.specs.declared.object_number.ObjNo.{ObjNo}
use Rattle.itpg_base.specs.Spans.{Span}
use Rattle.itpg_base.specs.Lists.{Among}
use Rattle.interval_set.specs.Runs.{AreRuns}
use Rattle.relation_rows.specs.declared.times.OneRow.{OneRow}
use Rattle.relation_rows.specs.Times.{InTime, TimesHold, AreTimes}

-- by object and last moment, the first row doesn't come after the second
abbrev pub EndsUpTo : OneRow → OneRow → Type 0
EndsUpTo r s = (r.object.0 < s.object.0) ⊎ ((r.object.0 ≡ s.object.0) × (r.span.to ≤ℤ s.span.to))

-- the first row ends before the second begins, or is of an earlier object
abbrev pub EndsBefore : OneRow → OneRow → Type 0
EndsBefore r s = (r.object.0 < s.object.0) ⊎ ((r.object.0 ≡ s.object.0) × (r.span.to <ℤ s.span.from))

-- what both rows have was added
abbrev pub HasShared : OneRow → OneRow → List OneRow → List OneRow → Type 0
HasShared r s old new = (pieces : List OneRow) × (new ≡ old ++ pieces) × AreTimes (λ o t. InTime r o t × InTime s o t) pieces

-- the rows are the runs of what those that were read have, and each begins where one of these does
pub record AreJoined (read rows : List OneRow) : Type 0 where
  pub times : AreTimes (TimesHold read) rows
  pub begun : (r : OneRow) → Among rows r → (s : OneRow) × Among read s × (s.object.0 ≡ r.object.0) × (s.span.from ≡ r.span.from)

-- the object over each of the spans
abbrev pub over_spans : ObjNo → List Span → List OneRow
over_spans o spans = map (λ (s : Span). record { object = o; span = s }) spans

-- the object was added over the runs of the moments at which the fact holds
pub record HasRuns (o : ObjNo) (S : ℤ → Type 0) (old new : List OneRow) : Type 0 where
  pub spans : List Span
  pub added : new ≡ old ++ over_spans o spans
  pub runs : AreRuns S spans
