use Rattle.std.proofs.Common.{length}
use Rattle.relation_rows.proofs.timetable.+push_departing.Given as goal

abbrev pub decreases-push_departing : goal.decreases-push_departing
decreases-push_departing l = length l.legs.now
