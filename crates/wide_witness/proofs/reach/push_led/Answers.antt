use Rattle.std.proofs.Common.{◌∙◌, ap, refl}
use Rattle.itpg_base.proofs.Lists.{among_at}
use Rattle.wide_witness.proofs.Walking.{none_pushed, row_passed, row_pushed, all_pushed}
use Rattle.wide_witness.proofs.reach.push_led.Goals as goal
use Rattle.wide_witness.proofs.reach.push_led.Goals.{in-Some+then-not-is_had+in_ok-push, in-Some+else-not-is_had, in_default}

pub loop-row-init : goal.loop-row-init
loop-row-init c = none_pushed c.args.run.now c.args.here.now c.args.all.now c.args.added.now.items

pub led_by-requires-clause-row : goal.led_by-requires-clause-row
led_by-requires-clause-row c = c.requires.rows _ (among_at c.args.here.now c.loop-row.row-index _ c.loop-row-test.true)

pub loop-row-preserved : goal.loop-row-preserved
loop-row-preserved c =
    elim c.match-led_by.branch [
      | in-Some+then-not-is_had+in_ok-push w ↦
          row_pushed c.args.run.now c.args.here.now c.args.all.now _ _ c.loop-row.row-index _ c.loop-row-test.true c.loop-row.invariant w.in-Some.led w.in-Some.ensures.span
          (λ y h. (w.in-Some.ensures.points y).0 h)
          (λ y h. (w.in-Some.ensures.points y).1 h)
          _
          (ap (λ v. v.items) w.added-is ∙ w.in_ok-push.ensures.items)
      | in-Some+else-not-is_had w ↦
          row_passed c.args.run.now c.args.here.now c.args.all.now _ _ c.loop-row.row-index _ c.loop-row-test.true c.loop-row.invariant
          (λ y h. w.if-not-is_had.ensures refl y ((w.in-Some.ensures.points y).1 h))
          _
          (ap (λ v. v.items) w.added-is)
      | in_default w ↦
          row_passed c.args.run.now c.args.here.now c.args.all.now _ _ c.loop-row.row-index _ c.loop-row-test.true c.loop-row.invariant
          (λ y h. absurd ((w.in_default.ensures.points y).1 h))
          _
          (ap (λ v. v.items) w.added-is)
    ]

pub returns : goal.returns
returns c = all_pushed c.args.run.now c.args.here.now c.args.all.now _ _ c.loop-row.row-index c.loop-row-test.false c.loop-row.invariant
