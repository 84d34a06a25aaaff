use Rattle.std.proofs.Common.{refl}
use Rattle.script_lex.specs.Lexemes.{ANumber}
use Rattle.script_lex.specs.Lines.{behind_blanks}
use Rattle.edit_reader.proofs.Taking.{next_taken, no_number_first, reached_more}
use Rattle.edit_reader.proofs.parts.Parts.number.Goals as goal

pub invariant_of-result-clause-reached : goal.invariant_of-result-clause-reached
invariant_of-result-clause-reached c =
    let line = c.args.self.line.now in
    reached_more line c.args.self.at (record { from = behind_blanks line c.args.self.at; to = c.in-Some.number.to; what = ANumber c.in-Some.number.bytes.now }) c.args.self.reached c.in-Some.ensures.number

pub returns-in-Some-clause-taken : goal.returns-in-Some-clause-taken
returns-in-Some-clause-taken c = λ tokens are.
    let line = c.args.self.line.now in
    next_taken line c.args.self.at (record { from = behind_blanks line c.args.self.at; to = c.in-Some.number.to; what = ANumber c.in-Some.number.bytes.now }) tokens c.in-Some.ensures.number are

pub returns-in-None-clause-taken : goal.returns-in-None-clause-taken
returns-in-None-clause-taken c = λ tokens are. (refl, no_number_first c.args.self.line.now c.args.self.at tokens (c.in-None.ensures.none refl) are)
