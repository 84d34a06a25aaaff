use Rattle.std.proofs.Common.{sym, ap, ◌∙◌, Some}
use Rattle.script_lex.proofs.Rows.{quoted_token, byte_fault, open_fault}
use Rattle.script_lex.proofs.lexing.read_quoted.Goals as goal

pub returns-in-Some-eq39-clause-token : goal.returns-in-Some-eq39-clause-token
returns-in-Some-eq39-clause-token c =
    quoted_token c.args.bytes.now c.run.result c.run.ensures.run c.split_at.result.0.now c.split_at.result.1.now c.split_at.ensures.front c.split_at.ensures.back
    (sym c.in-Some-eq39.ensures.value ∙ ap Some c.in-Some-eq39.field-0-test)

pub returns-in-Some-clause-fault : goal.returns-in-Some-clause-fault
returns-in-Some-clause-fault c =
    byte_fault c.args.bytes.now c.run.result c.run.ensures.run c.split_at.result.0.now c.split_at.result.1.now c.split_at.ensures.front c.split_at.ensures.back
    c.in-Some.field-0.now (sym c.in-Some.ensures.value) c.in-Some.field-0-test.1

pub returns-in-None-clause-fault : goal.returns-in-None-clause-fault
returns-in-None-clause-fault c =
    open_fault c.args.bytes.now c.run.result c.run.ensures.run c.split_at.result.0.now c.split_at.result.1.now c.split_at.ensures.front c.split_at.ensures.back
    (sym c.in-None.ensures.value)
