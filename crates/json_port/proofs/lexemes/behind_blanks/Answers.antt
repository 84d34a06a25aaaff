use Rattle.std.proofs.Common.{◌∙◌, sym, arith}
use Rattle.json_port.proofs.Fronts.{blank_at}
use Rattle.json_port.proofs.Ascii.{ascii_blank_at}
use Rattle.json_port.proofs.lexemes.behind_blanks.Goals as goal

pub loop-i-preserved : goal.loop-i-preserved
loop-i-preserved c = (
  blank_at c.args.text.now c.loop-i.i c.loop-i-test.true (sym c.is_blank.ensures ∙ c.if-is_blank.true) ∙ c.loop-i.invariant.0,
  omega arith,
  ascii_blank_at c.args.text.now c.loop-i.i c.loop-i-test.true (sym c.is_blank.ensures ∙ c.if-is_blank.true) ∙ c.loop-i.invariant.2,
)
