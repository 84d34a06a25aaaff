use Rattle.std.proofs.Common.{◌≡◌, ◌<◌, List, length, slice_index_or, sym, subst}
use Rattle.itpg_base.specs.Lists.{Among}
use Rattle.itpg_base.proofs.Lists.{among_at}
use Rattle.relation_rows.specs.declared.times.OneRow.{OneRow}
use Rattle.wide_witness.specs.Steps.{IsPushed}
use Rattle.wide_witness.proofs.Walking.{run_added}
use Rattle.wide_witness.proofs.reach.Reach.added.Goals as goal

pub push_led-requires-clause-rows : goal.push_led-requires-clause-rows
push_led-requires-clause-rows c = λ r h. c.requires.rows r ((c.rows_from-here.ensures r).0 h).0

pub push_led-requires-clause-run : goal.push_led-requires-clause-run
push_led-requires-clause-run c =
    let read = c.deref-run-items.result.now in
    let there = among_at read c.loop-run.run-index c.run-item.result c.loop-run-test.true in
    c.requires.newest c.run-item.result (subst (λ (v : List OneRow). Among v c.run-item.result) c.deref-run-items.ensures.value (subst (λ (v : OneRow). Among read v) (sym c.run-item.is) there))

pub loop-run-preserved : goal.loop-run-preserved
loop-run-preserved c =
    let run = c.run-item.result in
    let i = c.loop-run.run-index in
    let value = c.deref-run-items.ensures.value in
    run_added c.args.x.now c.args.self.now.newest.items c.args.self.now.all.items i run
    (subst (λ (v : List OneRow). i < length v) value c.loop-run-test.true)
    (subst (λ (v : List OneRow). run ≡ slice_index_or v i run) value c.run-item.is)
    c.rows_from-here.result.now
    c.rows_from-here.ensures
    _
    _
    (subst (λ (v : List OneRow). IsPushed run c.rows_from-here.result.now v c.loop-run.added.items c.push_led.new.added.items) c.deref.ensures.value c.in_ok-push_led.ensures)
    c.loop-run.invariant
