use Rattle.std.proofs.Common.{refl, sym, true≢false}
use Rattle.condition_eval.proofs.Cutting.{one_begun, begun_order, begun_there, begun_meets, begun_all}
use Rattle.condition_eval.proofs.without.begun_in.Goals as goal

pub returns-then-ends_before-clause-order : goal.returns-then-ends_before-clause-order
returns-then-ends_before-clause-order c = begun_order c.args.cuts.now c.args.row.now c.requires.order c.requires.going c.loop-count.count c.loop-count.invariant _ refl

pub returns-then-ends_before-clause-there : goal.returns-then-ends_before-clause-there
returns-then-ends_before-clause-there c = begun_there c.args.cuts.now c.args.row.now c.requires.order c.requires.going c.loop-count.count c.loop-count.invariant _ refl

pub returns-then-ends_before-clause-meets : goal.returns-then-ends_before-clause-meets
returns-then-ends_before-clause-meets c = begun_meets c.args.cuts.now c.args.row.now c.requires.order c.requires.going c.loop-count.count c.loop-count.invariant _ refl

pub returns-then-ends_before-clause-all : goal.returns-then-ends_before-clause-all
returns-then-ends_before-clause-all c = begun_all c.args.cuts.now c.args.row.now c.requires.order c.requires.going c.loop-count.count c.loop-count.invariant _ refl
    c.index-cuts-count.result c.loop-count-test.true c.index-cuts-count.is (c.ends_before.ensures.0 c.if-ends_before.true)

pub loop-count-preserved : goal.loop-count-preserved
loop-count-preserved c =
    one_begun c.args.cuts.now c.args.row.now c.loop-count.count c.index-cuts-count.result c.loop-count-test.true c.index-cuts-count.is (λ ends. true≢false (sym (c.if-ends_before.ensures.1 ends))) c.loop-count.invariant
