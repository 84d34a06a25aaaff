use Rattle.std.proofs.Common.{get_or, subst, arith}
use Rattle.relation_rows.specs.declared.times.OneRow.{OneRow}
use Rattle.relation_rows.specs.Times.{TimeUpTo}
use Rattle.relation_rows.proofs.Neighbours.{none_next, one_next}
use Rattle.relation_rows.proofs.Runs.{all_up}
use Rattle.relation_rows.proofs.times.are_in_order.Goals as goal

pub loop-i-init : goal.loop-i-init
loop-i-init c = none_next TimeUpTo c.args.times.now

pub loop-i-preserved : goal.loop-i-preserved
loop-i-preserved c =
    let later = c.comes_later.ensures c.if-not-comes_later.false in
    one_next TimeUpTo c.args.times.now c.loop-i.i c.index-times-i.result c.index-times-i-in-loop-i.result c.loop-i.auto.i c.loop-i-test.true c.loop-i.invariant
    (subst (λ (v : OneRow). TimeUpTo v (get_or c.args.times.now c.loop-i.i c.index-times-i-in-loop-i.result)) c.index-times-i.is
    (subst (TimeUpTo c.index-times-i.result) c.index-times-i-in-loop-i.is later))

pub returns : goal.returns
returns c = λ e. all_up c.args.times.now c.loop-i.i (omega arith) c.loop-i.invariant
