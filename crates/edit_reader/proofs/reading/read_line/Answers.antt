use Rattle.std.proofs.Common.{List, ℕ, Err, sym, ◌∙◌, subst}
use Rattle.itpg_base.specs.declared.text_code.TextCode.{TextCode}
use Rattle.edit_reader.specs.Readings.{told}
use Rattle.edit_reader.specs.Faults.{without_end}
use Rattle.edit_reader.specs.Lines.{TakenAs}
use Rattle.edit_reader.proofs.Firsts.{long_line, taken_once}
use Rattle.edit_reader.proofs.InRange.{told_moments}
use Rattle.edit_reader.proofs.Whole.{form_read}
use Rattle.edit_reader.proofs.reading.read_line.Goals as goal

pub returns-then-line-gt-MAX_LINE-clause-only : goal.returns-then-line-gt-MAX_LINE-clause-only
returns-then-line-gt-MAX_LINE-clause-only c =
    let body = without_end c.args.line.now in
    let long = subst (λ (b : List ℕ). TakenAs b (Err TextCode.Long)) c.without_end-line.ensures.line (long_line c.without_end-line.result.now c.if-line-gt-MAX_LINE.true) in
    λ other is. taken_once body other (Err TextCode.Long) is long

pub returns-clause-line : goal.returns-clause-line
returns-clause-line c =
    let loud = sym c.is_silent.ensures ∙ c.if-is_silent.false in
    let form = form_read c.without_end-line.result.now c.if-line-gt-MAX_LINE.false loud (told c.read_form.result) c.read_form.ensures in
    subst (λ (b : List ℕ). TakenAs b (told c.read_form.result)) c.without_end-line.ensures.line form

pub returns-clause-only : goal.returns-clause-only
returns-clause-only c = λ other is. taken_once (without_end c.args.line.now) other (told c.read_form.result) is (returns-clause-line c)

pub returns-clause-moments : goal.returns-clause-moments
returns-clause-moments c = told_moments (without_end c.args.line.now) c.read_form.result (returns-clause-line c)
