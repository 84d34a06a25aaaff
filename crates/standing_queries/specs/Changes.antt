-- What one answer has and another hasn't.
use Rattle.std.specs.Prelude.{◌≡◌}
use Rattle.relation_rows.specs.Rows.{NormalRows}
use Rattle.relation_rows.specs.Relations.{OnlyFirstHolds}
use Rattle.relation_rows.specs.Times.{AreTimes, OnlyFirstHas}
use Rattle.relation_rows.specs.Answered.{Answered, pairs, times}

-- both answers have rows of two times, or both have rows of one
abbrev pub AreOfOneKind : Answered → Answered → Type 0
AreOfOneKind (pairs first) (pairs second) = Unit {0}
AreOfOneKind (pairs first) (times second) = ⊥
AreOfOneKind (times first) (pairs second) = ⊥
AreOfOneKind (times first) (times second) = Unit {0}

-- the rest is what the first answer has and the second hasn't: its normal rows, or the runs of each object's moments
abbrev pub IsRest : Answered → Answered → Answered → Type 0
IsRest (pairs first) (pairs second) (pairs rest) = NormalRows (OnlyFirstHolds first second) rest
IsRest (pairs first) (pairs second) (times rest) = ⊥
IsRest (pairs first) (times second) rest = ⊥
IsRest (times first) (pairs second) rest = ⊥
IsRest (times first) (times second) (times rest) = AreTimes (OnlyFirstHas first second) rest
IsRest (times first) (times second) (pairs rest) = ⊥

-- of two answers there is at most one rest
abbrev pub OneRest : Type 0
OneRest = (first second x y : Answered) → IsRest first second x → IsRest first second y → x ≡ y

-- and of two of one kind there is one
abbrev pub SomeRest : Type 0
SomeRest = (first second : Answered) → AreOfOneKind first second → (rest : Answered) × IsRest first second rest
