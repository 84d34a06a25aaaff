use Rattle.json_port.proofs.Fronts.{string_first}
use Rattle.json_port.proofs.Ascii.{ascii_string}
use Rattle.json_port.proofs.lexemes.string.Goals as goal

pub returns-then-last-eq34-clause-lexeme : goal.returns-then-last-eq34-clause-lexeme
returns-then-last-eq34-clause-lexeme c =
    string_first c.args.text.now c.after_blanks.result.now c.in_ok-first.inside.now c.split_at.result.0.now c.split_at.result.1.now c.in_ok-last.rest.now c.in_ok-first.first.now c.in_ok-last.last.now c.plain_len.result
    c.after_blanks.ensures.lexemes c.in_ok-first.ensures.cases.0 c.if-first-ne34.false c.plain_len.ensures.value c.split_at.ensures.front c.split_at.ensures.by_index.0 c.in_ok-last.ensures.cases.0 c.if-last-eq34.true

pub returns-then-last-eq34-clause-ascii : goal.returns-then-last-eq34-clause-ascii
returns-then-last-eq34-clause-ascii c =
    ascii_string c.args.text.now c.after_blanks.result.now c.in_ok-first.inside.now c.split_at.result.0.now c.split_at.result.1.now c.in_ok-last.rest.now c.in_ok-first.first.now c.in_ok-last.last.now c.plain_len.result
    c.after_blanks.ensures.ascii c.in_ok-first.ensures.cases.0 c.if-first-ne34.false c.plain_len.ensures.value c.split_at.ensures.front c.split_at.ensures.by_index.0 c.in_ok-last.ensures.cases.0 c.if-last-eq34.true
