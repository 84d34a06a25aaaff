use Rattle.relation_rows.proofs.ways.is_timetable_due.Given as goal

abbrev pub invariant-loop-row : goal.invariant-loop-row
invariant-loop-row l = Unit {0}
