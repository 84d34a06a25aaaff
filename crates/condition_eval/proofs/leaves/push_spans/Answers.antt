use Rattle.condition_eval.proofs.Points.{spans_start, spans_more, spans_end}
use Rattle.condition_eval.proofs.leaves.push_spans.Goals as goal

pub loop-span-init : goal.loop-span-init
loop-span-init c = spans_start c.args.object c.args.spans.now c.args.rows.now.items

pub loop-span-preserved : goal.loop-span-preserved
loop-span-preserved c =
    let pushed = c.in_ok-push.ensures.items in
    spans_more c.args.object c.args.spans.now c.args.rows.now.items c.loop-span.rows.items _ c.loop-span.span-index c.span-item.result c.loop-span-test.true c.span-item.is c.loop-span.invariant pushed

pub returns : goal.returns
returns c = spans_end c.args.object c.args.spans.now c.args.rows.now.items c.loop-span.rows.items c.loop-span.span-index c.requires c.loop-span-test.false c.loop-span.invariant
