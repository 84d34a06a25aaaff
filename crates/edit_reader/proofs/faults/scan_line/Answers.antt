use Rattle.std.proofs.Common.{Some, None, arith}
use Rattle.script_lex.specs.Lines.{placed}
use Rattle.script_lex.proofs.OneList.{lead_end}
use Rattle.edit_reader.proofs.Counting.{one_more}
use Rattle.edit_reader.proofs.faults.scan_line.Goals as goal

pub loop-token-preserved : goal.loop-token-preserved
loop-token-preserved c =
    let e = c.in-Ok-Some.ensures in
    let next = rw c.in-Ok-Some.field-0-is at e.token in
    let within = rw c.in-Ok-Some.field-0-is at e.within in
    one_more c.args.line.now c.loop-token.at c.loop-token.count (placed c.in-Ok-Some.token) c.loop-token.invariant next (omega (arith, within.0, within.1)) within.2

pub returns-in-Ok-None : goal.returns-in-Ok-None
returns-in-Ok-None c =
    let i = c.loop-token.invariant in record {
      tokens = i.tokens;
      are = lead_end c.args.line.now 0 c.loop-token.at i.tokens None i.lead (c.in-Ok-None.ensures.ended.0 cc);
      count = i.counted;
    }

pub returns-in-Err : goal.returns-in-Err
returns-in-Err c =
    let i = c.loop-token.invariant in record {
      tokens = i.tokens;
      are = lead_end c.args.line.now 0 c.loop-token.at i.tokens (Some c.in-Err.code) i.lead c.in-Err.ensures.fault;
      count = i.counted;
    }
