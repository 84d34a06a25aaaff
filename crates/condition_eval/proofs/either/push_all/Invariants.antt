use Rattle.std.proofs.Common.{◌++◌, take}
use Rattle.condition_eval.specs.Walking.{AreJoined}
use Rattle.condition_eval.proofs.either.push_all.Given as goal

abbrev pub invariant-loop-row : goal.invariant-loop-row
invariant-loop-row l = AreJoined (l.initial.rows.items ++ take l.row-index l.fn.more) l.rows.items
