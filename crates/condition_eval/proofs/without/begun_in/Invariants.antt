use Rattle.condition_eval.proofs.Cutting.{AreBegun}
use Rattle.condition_eval.proofs.without.begun_in.Given as goal

abbrev pub invariant-loop-count : goal.invariant-loop-count
invariant-loop-count l = AreBegun l.fn.cuts l.fn.row l.count
