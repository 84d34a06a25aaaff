use Rattle.std.proofs.Common.{take}
use Rattle.path_ast.specs.Terms.{leaf_term}
use Rattle.condition_eval.specs.Marking.{AreMarks}
use Rattle.condition_eval.specs.Tested.{HoldsAt}
use Rattle.condition_eval.proofs.leaves.leaf_marks.Given as goal

abbrev pub invariant-loop-object : goal.invariant-loop-object
invariant-loop-object l = AreMarks (take l.object-index l.fn.objects) (HoldsAt (leaf_term l.fn.leaf) l.fn.graph) l.rows.items
