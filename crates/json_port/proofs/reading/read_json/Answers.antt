use Rattle.std.proofs.Common.{arith}
use Rattle.json_port.proofs.OneLine.{only_answer, line_answer}
use Rattle.json_port.proofs.reading.read_json.Goals as goal

pub returns-clause-only : goal.returns-clause-only
returns-clause-only c =
    only_answer c.args.line.now c.read_text.result
    (line_answer c.args.line.now c.without_end-line.result.now c.is_blank.result c.read_text.result c.without_end-line.ensures.line (omega (arith, c.if-line-gt-MAX_LINE.false)) c.is_blank.ensures c.if-is_blank.false c.read_text.ensures)
