-- Marks: points, as one-time rows of their objects.
use Rattle.std.specs.Prelude.{List}
use Rattle.itpg_base.specs.declared.object_number.ObjNo.{ObjNo}
use Rattle.itpg_base.specs.Points.{Point}
use Rattle.relation_rows.specs.declared.times.OneRow.{OneRow}
use Rattle.relation_rows.specs.Relations.{IsOneOf}
use Rattle.relation_rows.specs.Times.{TimesHold, AreTimes}

-- the point is marked: some row has its object at its moment
abbrev pub IsMarked : List OneRow → Point → Type 0
IsMarked marks x = TimesHold marks x.object x.moment

-- the rows are, object by object, the runs of exactly those points of which the fact holds
abbrev pub ArePoints : (Point → Type 0) → List OneRow → Type 0
ArePoints Holds marks = AreTimes (λ o t. Holds (record { object = o; moment = t })) marks

-- the same of those points of the objects of which the fact holds
abbrev pub AreMarks : List ObjNo → (Point → Type 0) → List OneRow → Type 0
AreMarks objects Holds marks = ArePoints (λ x. IsOneOf objects x.object × Holds x) marks
