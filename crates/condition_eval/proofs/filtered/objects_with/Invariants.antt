use Rattle.std.proofs.Common.{take}
use Rattle.path_ast.specs.Terms.{leaf_term}
use Rattle.condition_eval.specs.Filtered.{AreThoseWith}
use Rattle.condition_eval.proofs.filtered.objects_with.Given as goal

abbrev pub invariant-loop-object : goal.invariant-loop-object
invariant-loop-object l = AreThoseWith (leaf_term l.fn.leaf) l.fn.graph (take l.object-index l.fn.objects) l.kept.items
