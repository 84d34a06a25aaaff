-- Answers, as their rows.
use Rattle.std.specs.Prelude.{ℕ, List, length}
use Rattle.relation_rows.specs.declared.rows.Row.{Row}
use Rattle.relation_rows.specs.declared.times.OneRow.{OneRow}
use Rattle.relation_rows.specs.declared.answered.Answer.{Answer}
use Rattle.relation_rows.specs.declared.answered.Answer.TheVariants.{Pairs, Times}

-- rows of two times, or of one
pub data Answered : Type 0 where
  pairs : List Row → Answered
  times : List OneRow → Answered

-- the rows of an answer
abbrev pub answered : Answer → Answered
answered (Pairs relation) = pairs relation.value
answered (Times rows) = times rows

-- how many rows there are
abbrev pub row_number : Answered → ℕ
row_number (pairs rows) = length rows
row_number (times rows) = length rows
