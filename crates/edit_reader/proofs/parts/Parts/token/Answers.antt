use Rattle.std.proofs.Common.{Some, None}
use Rattle.script_lex.specs.Lines.{placed}
use Rattle.edit_reader.proofs.Taking.{next_taken, none_left, reached_more}
use Rattle.edit_reader.proofs.parts.Parts.token.Goals as goal

pub returns-in-Ok-Some-clause-token : goal.returns-in-Ok-Some-clause-token
returns-in-Ok-Some-clause-token c =
    let next = rw c.in-Ok-Some.field-0-is at c.in-Ok-Some.ensures.token in
    λ tokens are. next_taken c.args.self.line.now c.args.self.at (placed c.in-Ok-Some.token) tokens next are

pub returns-in-Ok-None-clause-token : goal.returns-in-Ok-None-clause-token
returns-in-Ok-None-clause-token c = λ tokens are. none_left c.args.self.line.now c.args.self.at None tokens (c.in-Ok-None.ensures.ended.0 cc) are

pub returns-in-Err-clause-token : goal.returns-in-Err-clause-token
returns-in-Err-clause-token c = λ tokens are. none_left c.args.self.line.now c.args.self.at (Some c.in-Err.field-0) tokens c.in-Err.ensures.fault are

pub invariant_of-result-clause-reached : goal.invariant_of-result-clause-reached
invariant_of-result-clause-reached c =
    let next = rw c.in-Ok-Some.field-0-is at c.in-Ok-Some.ensures.token in
    reached_more c.args.self.line.now c.args.self.at (placed c.in-Ok-Some.token) c.args.self.reached next
