use Rattle.std.proofs.Common.{length}
use Rattle.relation_rows.proofs.timetable.+push_legs.Given as goal

abbrev pub decreases-push_legs : goal.decreases-push_legs
decreases-push_legs l = length l.rows.now
