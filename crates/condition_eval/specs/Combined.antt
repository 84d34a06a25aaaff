-- Marks that are worked out from others, and the relation of marked points.
use Rattle.std.specs.Prelude.{◌≡◌, ◌⊎◌, List}
use Rattle.itpg_base.specs.Spans.{Span, Within}
use Rattle.itpg_base.specs.Points.{Point, Relation}
use Rattle.relation_rows.specs.declared.times.OneRow.{OneRow}
use Rattle.condition_eval.specs.Marking.{IsMarked}

-- the point is marked by the one and by the other
abbrev pub BothMark : List OneRow → List OneRow → Point → Type 0
BothMark own other x = IsMarked own x × IsMarked other x

-- the point is marked by the one or by the other
abbrev pub EitherMarks : List OneRow → List OneRow → Point → Type 0
EitherMarks own other x = IsMarked own x ⊎ IsMarked other x

-- the moment is in the horizon, and the point isn't marked
abbrev pub IsUnmarked : Span → List OneRow → Point → Type 0
IsUnmarked horizon marks x = Within x.moment horizon × (¬ IsMarked marks x)

-- each marked point leads to itself
abbrev pub MarkedToItself : List OneRow → Relation
MarkedToItself marks x y = (y ≡ x) × IsMarked marks x
