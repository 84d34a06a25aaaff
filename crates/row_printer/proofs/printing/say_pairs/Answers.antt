use Rattle.std.proofs.Common.{arith}
use Rattle.itpg_base.proofs.Lists.{among_at}
use Rattle.row_printer.specs.Texts.{led, pair_in}
use Rattle.row_printer.specs.Said.{SaysSome}
use Rattle.row_printer.proofs.Saying.{says_none, says_then, says_some, on_err}
use Rattle.row_printer.proofs.Led.{led_none, led_next, led_around}
use Rattle.row_printer.proofs.printing.say_pairs.Goals as goal

pub loop-row-init : goal.loop-row-init
loop-row-init g c = record { said = says_none _ _ _ (led_none c.args.lead.now (pair_in c.args.form c.args.graph.now) c.args.rows.now); later = omega arith }

pub say_pair-requires-clause-source : goal.say_pair-requires-clause-source
say_pair-requires-clause-source g c = (c.requires.declared _ (among_at c.args.rows.now c.loop-row.row-index _ c.loop-row-test.true)).0

pub say_pair-requires-clause-target : goal.say_pair-requires-clause-target
say_pair-requires-clause-target g c = (c.requires.declared _ (among_at c.args.rows.now c.loop-row.row-index _ c.loop-row-test.true)).1

pub returns-in_err-say_pair-clause-some : goal.returns-in_err-say_pair-clause-some
returns-in_err-say_pair-clause-some g c =
    let some : SaysSome (g.K.Sink.held c.args.out.now) (g.K.Sink.held c.say_pair.new.out) c.args.page.now (led c.args.lead.now (pair_in c.args.form c.args.graph.now) c.args.rows.now) =
    says_some _ _ _ _ _ _ _ _ _ c.loop-row.invariant.said c.in_err-say_pair.ensures.some (led_around c.args.lead.now (pair_in c.args.form c.args.graph.now) c.args.rows.now c.loop-row.row-index _ c.loop-row-test.true) in
    on_err _ _ some

pub loop-row-preserved : goal.loop-row-preserved
loop-row-preserved g c = record {
  said = says_then _ _ _ _ _ _ _ _ _ c.loop-row.invariant.said c.in_ok-say_pair.ensures.said (led_next c.args.lead.now (pair_in c.args.form c.args.graph.now) c.args.rows.now c.loop-row.row-index _ c.loop-row-test.true);
  later = omega (arith, c.say_pair.ensures.cause.later, c.loop-row.invariant.later);
}
