use Rattle.std.proofs.Common.{[], sym, arith}
use Rattle.row_printer.specs.Texts.{led, count_in}
use Rattle.row_printer.specs.Said.{SaysSome}
use Rattle.row_printer.proofs.Saying.{says_none, says_then, says_some, on_err}
use Rattle.row_printer.proofs.Led.{led_none, led-more, led_parts}
use Rattle.row_printer.proofs.counting.say_counts.Goals as goal

pub loop-row-init : goal.loop-row-init
loop-row-init g c = record { said = says_none _ _ _ (led_none [] (count_in c.args.form) c.args.rows.now); later = omega arith }

pub returns-in_err-say_count-clause-some : goal.returns-in_err-say_count-clause-some
returns-in_err-say_count-clause-some g c =
    let parts = led_parts [] (count_in c.args.form) c.args.rows.now c.loop-row.row-index c.row-item.result c.loop-row-test.true (sym c.row-item.is) in
    let some : SaysSome (g.K.Sink.held c.args.out.now) (g.K.Sink.held c.say_count.new.out) c.args.page.now (led [] (count_in c.args.form) c.args.rows.now) =
    says_some _ _ _ _ _ _ _ parts.0 _ c.loop-row.invariant.said c.in_err-say_count.ensures.some parts.1 in
    on_err _ _ some

pub loop-row-preserved : goal.loop-row-preserved
loop-row-preserved g c = record {
  said = says_then _ _ _ _ _ _ _ _ _ c.loop-row.invariant.said c.in_ok-say_count.ensures.said (led-more [] (count_in c.args.form) c.args.rows.now c.loop-row.row-index c.row-item.result c.loop-row-test.true (sym c.row-item.is));
  later = omega (arith, c.say_count.ensures.cause.later, c.loop-row.invariant.later);
}
