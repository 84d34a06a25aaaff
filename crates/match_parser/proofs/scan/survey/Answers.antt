use Rattle.std.proofs.Common.{None, Some, refl}
use Rattle.script_lex.specs.Lines.{placed}
use Rattle.match_parser.specs.Scans.{judged}
use Rattle.match_parser.proofs.Scanning.{seen_more, look_said, said_ok, said_err}
use Rattle.match_parser.proofs.scan.survey.Goals as goal

pub loop-token-preserved : goal.loop-token-preserved
loop-token-preserved c =
    let next = rw c.in-Ok-Some.field-0-is at c.in-Ok-Some.ensures.token in
    let within = rw c.in-Ok-Some.field-0-is at c.in-Ok-Some.ensures.within in
    let on = c.look_on-look.ensures in
    seen_more c.args.text.now c.loop-token.look c.look_on-look.result (placed c.in-Ok-Some.token) c.loop-token.invariant next within.0 within.1 within.2 on.at on.count on.opened on.closed on.deep

pub returns-in-Ok-None-clause-ok : goal.returns-in-Ok-None-clause-ok
returns-in-Ok-None-clause-ok c =
    let ended = rw c.in-Ok-None.field-0-is at c.in-Ok-None.ensures.ended in
    said_ok c.args.text.now None c.judge.result (judged c.loop-token.look.count c.loop-token.look.deep None) c.judge.ensures (look_said c.args.text.now c.loop-token.look None c.loop-token.invariant (ended.0 refl))

pub returns-in-Ok-None-clause-fault : goal.returns-in-Ok-None-clause-fault
returns-in-Ok-None-clause-fault c =
    let ended = rw c.in-Ok-None.field-0-is at c.in-Ok-None.ensures.ended in
    said_err c.args.text.now None c.judge.result (judged c.loop-token.look.count c.loop-token.look.deep None) c.judge.ensures (look_said c.args.text.now c.loop-token.look None c.loop-token.invariant (ended.0 refl))

pub returns-in-Err-clause-ok : goal.returns-in-Err-clause-ok
returns-in-Err-clause-ok c = said_ok c.args.text.now (Some c.in-Err.code) c.judge-in-Err.result (judged c.loop-token.look.count c.loop-token.look.deep (Some c.in-Err.code)) c.judge-in-Err.ensures (look_said c.args.text.now c.loop-token.look (Some c.in-Err.code) c.loop-token.invariant c.in-Err.ensures.fault)

pub returns-in-Err-clause-fault : goal.returns-in-Err-clause-fault
returns-in-Err-clause-fault c = said_err c.args.text.now (Some c.in-Err.code) c.judge-in-Err.result (judged c.loop-token.look.count c.loop-token.look.deep (Some c.in-Err.code)) c.judge-in-Err.ensures (look_said c.args.text.now c.loop-token.look (Some c.in-Err.code) c.loop-token.invariant c.in-Err.ensures.fault)
