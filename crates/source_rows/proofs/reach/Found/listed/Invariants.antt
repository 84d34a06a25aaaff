use Rattle.std.proofs.Common.{◌≡◌, ◌++◌}
use Rattle.source_rows.proofs.Gaining.{objects_of}
use Rattle.source_rows.proofs.reach.Found.listed.Given as goal

abbrev pub invariant-loop-number : goal.invariant-loop-number
invariant-loop-number l = l.objects.items ++ objects_of l.number-iterator ≡ objects_of l.fn.self.seen.keys
