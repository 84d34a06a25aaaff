use Rattle.condition_eval.proofs.Cutting.{going_start, going_more}
use Rattle.condition_eval.proofs.without.going_at.Goals as goal

pub loop-cut-init : goal.loop-cut-init
loop-cut-init c = going_start c.args.cuts.now c.args.row.now c.requires

pub loop-cut-preserved : goal.loop-cut-preserved
loop-cut-preserved c = going_more _ _ _ c.loop-cut.invariant _ _ c.in-Some.ensures.cases.0 (c.ends_before.ensures.0 c.if-not-ends_before.false)
