use Rattle.std.proofs.Common.{◌≡◌, replicate, false}
use Rattle.path_eval.proofs.reaching.only.Given as goal

abbrev pub invariant-loop : goal.invariant-loop
invariant-loop l = l.marks.items ≡ replicate l.counter false
