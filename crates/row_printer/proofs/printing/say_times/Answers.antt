use Rattle.std.proofs.Common.{sym, arith}
use Rattle.row_printer.specs.Texts.{led, time_in}
use Rattle.row_printer.specs.Said.{SaysSome}
use Rattle.row_printer.proofs.Saying.{says_none, says_then, says_some, on_err}
use Rattle.row_printer.proofs.Led.{led_none, led-more, led_parts, at_among}
use Rattle.row_printer.proofs.printing.say_times.Goals as goal

pub loop-row-init : goal.loop-row-init
loop-row-init g c = record { said = says_none _ _ _ (led_none c.args.lead.now (time_in c.args.form c.args.graph.now) c.args.rows.now); later = omega arith }

pub say_time-requires : goal.say_time-requires
say_time-requires g c = record { declared = c.requires.declared c.row-item.result (at_among c.args.rows.now c.loop-row.row-index c.row-item.result c.loop-row-test.true (sym c.row-item.is)) }

pub returns-in_err-say_time-clause-some : goal.returns-in_err-say_time-clause-some
returns-in_err-say_time-clause-some g c =
    let parts = led_parts c.args.lead.now (time_in c.args.form c.args.graph.now) c.args.rows.now c.loop-row.row-index c.row-item.result c.loop-row-test.true (sym c.row-item.is) in
    let some : SaysSome (g.K.Sink.held c.args.out.now) (g.K.Sink.held c.say_time.new.out) c.args.page.now (led c.args.lead.now (time_in c.args.form c.args.graph.now) c.args.rows.now) =
    says_some _ _ _ _ _ _ _ parts.0 _ c.loop-row.invariant.said c.in_err-say_time.ensures.some parts.1 in
    on_err _ _ some

pub loop-row-preserved : goal.loop-row-preserved
loop-row-preserved g c = record {
  said = says_then _ _ _ _ _ _ _ _ _ c.loop-row.invariant.said c.in_ok-say_time.ensures.said (led-more c.args.lead.now (time_in c.args.form c.args.graph.now) c.args.rows.now c.loop-row.row-index c.row-item.result c.loop-row-test.true (sym c.row-item.is));
  later = omega (arith, c.say_time.ensures.cause.later, c.loop-row.invariant.later);
}
