-- The answer of a relation, from its normal rows.
use Rattle.std.proofs.Common.{◌||◌, Bool, true, false, List, sym, subst}
use Rattle.std.specs.Prelude.{IsTrue}
use Rattle.itpg_base.specs.Points.{Relation}
use Rattle.relation_rows.specs.declared.rows.Row.{Row}
use Rattle.relation_rows.specs.declared.times.OneRow.{OneRow}
use Rattle.relation_rows.specs.Rows.{NormalRows}
use Rattle.relation_rows.specs.Times.{AreTimes, Arrives}
use Rattle.relation_rows.specs.Answered.{Answered, pairs, times}
use Rattle.relation_rows.proofs.Alike.{rows_hold, hold_only}
use Rattle.path_eval.specs.Answering.{IsAnswer, IsAnswerFrom}

-- where the first end isn't asked for, the last is
pub of_last : (last : Bool) (own : List Row) (rows : List OneRow) → IsTrue (false || last) → AreTimes (Arrives own) rows → IsAnswerFrom false last own (times rows)
of_last true own rows some h = h
of_last false own rows some h = absurd (let none : ⊥ = cc in none)

pub answer_from : (first last : Bool) (R : Relation) (own : List Row) (answer : Answered) → NormalRows R own → IsAnswerFrom first last own answer → IsAnswer first last R answer
answer_from true true R own (pairs rows) n h = subst (NormalRows R) (sym h) n
answer_from true false R own (times rows) n h = record {
  whole = λ o t d. h.whole o t (d.0, rows_hold R own n _ _ d.1);
  only = λ o t d. (let k = h.only o t d in (k.0, hold_only R own n _ _ k.1));
  spans = h.spans;
  order = h.order;
}
answer_from false true R own (times rows) n h = record {
  whole = λ o t d. h.whole o t (d.0, rows_hold R own n _ _ d.1);
  only = λ o t d. (let k = h.only o t d in (k.0, hold_only R own n _ _ k.1));
  spans = h.spans;
  order = h.order;
}
answer_from true true R own (times rows) n h = absurd h
answer_from true false R own (pairs rows) n h = absurd h
answer_from false true R own (pairs rows) n h = absurd h
answer_from false false R own (pairs rows) n h = absurd h
answer_from false false R own (times rows) n h = absurd h
