-- Of two answers of one kind there is exactly one rest.
use Rattle.std.proofs.Common.{◌≡◌, ap}
use Rattle.relation_rows.specs.Relations.{OnlyFirstHolds}
use Rattle.relation_rows.specs.Times.{OnlyFirstHas}
use Rattle.relation_rows.specs.Answered.{Answered, pairs, times}
use Rattle.relation_rows.proofs.Finite.{difference_there}
use Rattle.relation_rows.proofs.FiniteTimes.{rest_there}
use Rattle.relation_rows.proofs.Listed.{rows_unique}
use Rattle.relation_rows.proofs.TimeLaws.{times_unique}
use Rattle.standing_queries.specs.Changes.{AreOfOneKind, IsRest}

pub one_rest : (first second x y : Answered) → IsRest first second x → IsRest first second y → x ≡ y
one_rest (pairs f) (pairs s) (pairs x) (pairs y) p q = ap pairs (rows_unique (OnlyFirstHolds f s) x y p q)
one_rest (pairs f) (pairs s) (pairs x) (times y) p q = absurd q
one_rest (pairs f) (pairs s) (times x) y p q = absurd p
one_rest (pairs f) (times s) x y p q = absurd p
one_rest (times f) (pairs s) x y p q = absurd p
one_rest (times f) (times s) (times x) (times y) p q = ap times (times_unique (OnlyFirstHas f s) x y p q)
one_rest (times f) (times s) (times x) (pairs y) p q = absurd q
one_rest (times f) (times s) (pairs x) y p q = absurd p

pub some_rest : (first second : Answered) → AreOfOneKind first second → (rest : Answered) × IsRest first second rest
some_rest (pairs f) (pairs s) k = let w = difference_there f s in (pairs w.0, w.1)
some_rest (pairs f) (times s) k = absurd k
some_rest (times f) (pairs s) k = absurd k
some_rest (times f) (times s) k = let w = rest_there f s in (times w.0, w.1)
