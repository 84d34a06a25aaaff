use Rattle.std.proofs.Common.{take}
use Rattle.itpg_base.specs.Points.{Point}
use Rattle.itpg_base.specs.Spans.{Within}
use Rattle.condition_eval.specs.Marking.{AreMarks}
use Rattle.condition_eval.proofs.whole.all_over.Given as goal

abbrev pub invariant-loop-object : goal.invariant-loop-object
invariant-loop-object l = AreMarks (take l.object-index l.fn.objects) (λ (x : Point). Within x.moment l.fn.span) l.rows.items
