use Rattle.std.proofs.Common.{ℤ, rules}
use Rattle.itpg_base.specs.Points.{Point}
use Rattle.itpg_base.specs.Spans.{Within, IsSpan}
use Rattle.condition_eval.proofs.Marked.{no_objects, next_object, all_objects}
use Rattle.condition_eval.proofs.Points.{one_run}
use Rattle.condition_eval.proofs.whole.all_over.Goals as goal

pub loop-object-init : goal.loop-object-init
loop-object-init c = no_objects (λ (x : Point). Within x.moment c.args.span) c.args.objects.now c.in_ok-rows.rows.items c.in_ok-rows.ensures.items

pub loop-object-preserved : goal.loop-object-preserved
loop-object-preserved c =
    let pushed = c.in_ok-push.ensures.items in
    let span : IsSpan c.args.span = search rules in
    next_object (λ (x : Point). Within x.moment c.args.span) c.args.objects.now c.requires c.loop-object.object-index (record { 0 = 0 }) c.loop-object-test.true c.loop-object.rows.items _
    (one_run _ (λ (t : ℤ). Within t c.args.span) _ _ c.args.span span (λ t w. w) (λ t w. w) pushed) c.loop-object.invariant

pub returns : goal.returns
returns c = all_objects (λ (x : Point). Within x.moment c.args.span) c.args.objects.now c.loop-object.object-index c.loop-object.rows.items c.loop-object-test.false c.loop-object.invariant
