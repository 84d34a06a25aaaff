use Rattle.std.proofs.Common.{take}
use Rattle.std.specs.Prelude.{Contains}
use Rattle.itpg_base.specs.Words.{Word}
use Rattle.path_eval.proofs.within_both.has_each.Given as goal

abbrev pub invariant-loop-name : goal.invariant-loop-name
invariant-loop-name l = (label : Word) → Contains (take l.name-index l.name-items) label → Contains l.names label
