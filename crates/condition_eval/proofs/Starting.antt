-- Where a relation starts.
use Rattle.std.proofs.Common.{◌≡◌, List, sym, subst}
use Rattle.itpg_base.specs.declared.object_number.ObjNo.{ObjNo}
use Rattle.itpg_base.specs.Spans.{Span, Within}
use Rattle.itpg_base.specs.Graphs.{Graph}
use Rattle.relation_rows.specs.declared.rows.Row.{Row}
use Rattle.relation_rows.specs.declared.times.OneRow.{OneRow}
use Rattle.relation_rows.specs.Relations.{IsOneOf}
use Rattle.relation_rows.specs.Times.{TimesHold, AreTimes, Departs}
use Rattle.relation_rows.proofs.Runs.{times_alike}
use Rattle.condition_eval.specs.Marking.{AreMarks}
use Rattle.condition_eval.specs.Tested.{StartsAt, Stand, HasHorizon}
use Rattle.condition_eval.proofs.Points.{in_horizon}

-- what the objects over the horizon share with the moments at which a pair departs
pub starts_marked : (g : Graph) (horizon : Span) → HasHorizon g horizon → (objects : List ObjNo) → Stand g objects → (rows : List Row) (times read all whole marks : List OneRow) → AreTimes (Departs rows) times → read ≡ times
    → AreTimes (λ o t. IsOneOf objects o × Within t horizon) all → whole ≡ all → AreTimes (λ o t. TimesHold read o t × TimesHold whole o t) marks → AreMarks objects (StartsAt rows g) marks
starts_marked g horizon begun objects stand rows times read all whole marks departs e are f shared =
    let given = subst (λ (v : List OneRow). AreTimes (Departs rows) v) (sym e) departs in
    let room = subst (λ (v : List OneRow). AreTimes (λ o t. IsOneOf objects o × Within t horizon) v) (sym f) are in
    times_alike (λ o t. TimesHold read o t × TimesHold whole o t) (λ o t. IsOneOf objects o × StartsAt rows g (record { object = o; moment = t }))
    (λ o t h. let k = room.only o t h.1 in (k.0, (record { stands = stand o k.0; within = (in_horizon g horizon begun t).0 k.1 }, given.only o t h.0)))
    (λ o t h. let s = h.1 in let at = s.0 in (given.whole o t s.1, room.whole o t (h.0, (in_horizon g horizon begun t).1 at.within)))
    marks shared
