use Rattle.std.proofs.Common.{take}
use Rattle.path_eval.specs.WithinBoth.{AreThoseWithin}
use Rattle.path_eval.proofs.within_both.those_within.Given as goal

abbrev pub invariant-loop-object : goal.invariant-loop-object
invariant-loop-object l = AreThoseWithin l.fn.scope l.fn.ground.graph.now (take l.object-index l.fn.objects) l.kept.items
