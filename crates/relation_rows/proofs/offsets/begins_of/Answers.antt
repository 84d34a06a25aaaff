use Rattle.std.proofs.Common.{arith}
use Rattle.itpg_base.proofs.Lists.{among_at}
use Rattle.relation_rows.proofs.OffsetLemmas.{none_listed, more_begins, more_passed, all_begins}
use Rattle.relation_rows.proofs.offsets.begins_of.Goals as goal

pub loop-place-init : goal.loop-place-init
loop-place-init c = record {
  listed = none_listed c.args.rows.now c.args.first c.new-begins.result.items c.new-begins.ensures.items;
  passed = λ r a. absurd a;
}

pub overflow_sub-count : goal.overflow_sub-count
overflow_sub-count c = c.requires.first _ (among_at c.args.rows.now c.loop-place.place _ c.loop-place-test.true)

pub loop-place-preserved : goal.loop-place-preserved
loop-place-preserved c =
    let low = c.requires.first _ (among_at c.args.rows.now c.loop-place.place _ c.loop-place-test.true) in
    let old = c.loop-place.invariant in
    record {
      listed = more_begins c.args.rows.now c.args.first c.loop-place.begins.items c.fill.new.begins.items c.loop-place.place _ c.requires.order c.loop-place-test.true low c.in_ok-fill.ensures old.listed old.passed;
      passed = more_passed c.args.rows.now c.args.first c.loop-place.begins.items c.fill.new.begins.items c.loop-place.place _ c.requires.order c.loop-place-test.true low c.in_ok-fill.ensures old.listed old.passed;
    }

pub returns : goal.returns
returns c =
    all_begins c.args.rows.now c.args.first c.loop-place.begins.items c.fill-2.new.begins.items c.loop-place.place (omega arith) _ (omega arith) c.in_ok-fill-2.ensures c.loop-place.invariant.listed c.loop-place.invariant.passed
