use Rattle.json_port.proofs.Fronts.{operator_first}
use Rattle.json_port.proofs.Ascii.{ascii_operator}
use Rattle.json_port.proofs.lexemes.after_byte.Goals as goal

pub returns-then-first-byte-clause-lexeme : goal.returns-then-first-byte-clause-lexeme
returns-then-first-byte-clause-lexeme c = operator_first c.args.text.now c.after_blanks.result.now c.in_ok-first.rest.now c.in_ok-first.first.now c.args.byte c.after_blanks.ensures.lexemes c.in_ok-first.ensures.cases.0 c.if-first-byte.true c.requires

pub returns-then-first-byte-clause-ascii : goal.returns-then-first-byte-clause-ascii
returns-then-first-byte-clause-ascii c = ascii_operator c.args.text.now c.after_blanks.result.now c.in_ok-first.rest.now c.in_ok-first.first.now c.args.byte c.after_blanks.ensures.ascii c.in_ok-first.ensures.cases.0 c.if-first-byte.true c.requires
