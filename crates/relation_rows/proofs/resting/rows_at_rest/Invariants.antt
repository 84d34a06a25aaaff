use Rattle.std.proofs.Common.{◌≡◌, map, take}
use Rattle.relation_rows.specs.Resting.{resting}
use Rattle.relation_rows.proofs.resting.rows_at_rest.Given as goal

abbrev pub invariant-loop-time : goal.invariant-loop-time
invariant-loop-time l = l.rows.items ≡ map resting (take l.time-index l.fn.times)
