use Rattle.std.proofs.Common.{◌≡◌, ℕ, List, None, Ok, sym, ◌∙◌, subst, arith}
use Rattle.script_lex.specs.Lines.{AreTokens}
use Rattle.edit_reader.specs.Readings.{Changes}
use Rattle.edit_reader.specs.Steps.{Told}
use Rattle.edit_reader.specs.Taken.{IsWhole}
use Rattle.edit_reader.specs.Forms.{form_of, parts_of}
use Rattle.edit_reader.specs.Telling.{form_told}
use Rattle.edit_reader.proofs.SimpleLines.{tokens_few}
use Rattle.edit_reader.proofs.Whole.{form_alone, of_command}
use Rattle.edit_reader.proofs.reading.read_form.Goals as goal

pub returns-then-line-le-MAX_TOKENS : goal.returns-then-line-le-MAX_TOKENS
returns-then-line-le-MAX_TOKENS c = λ tokens end are.
    let r : Told = Ok (Changes c.write_edit.new.room) in
    let same : c.in-Ok.parts.line.now ≡ c.args.line.now = c.in-Ok.ensures.line ∙ c.new.ensures.line in
    let whole : IsWhole c.args.line.now = subst IsWhole same c.in_default-write_edit.ensures.whole in
    let ended = whole tokens end are in
    let few = tokens_few c.args.line.now 0 tokens end (omega arith) are in
    let short = c.if-line-le-MAX_TOKENS.true in
    form_alone c.args.line.now tokens end are ended (omega (arith, few, short)) r (λ well.
    let from = subst (λ (at : ℕ). AreTokens c.args.line.now at tokens None) (sym c.new.ensures.at) well in
    let left = subst (λ (line : List ℕ). AreTokens line c.new.result.at tokens None) (sym c.new.ensures.line) from in
    let t = c.in-Ok.ensures.taken tokens left in
    let command = sym c.of.ensures ∙ c.in-Some.is in
    let told_so = of_command c.new.result.line.now t c.in-Some.command command r (λ text first second third. c.in_default-write_edit.ensures.told t.rest t.behind text) in
    subst (λ (line : List ℕ). r ≡ form_told (form_of line tokens) (parts_of tokens)) c.new.ensures.line told_so)
