use Rattle.std.proofs.Common.{List, ℕ, ◌<◌, length, Ok, sym, subst}
use Rattle.itpg_base.specs.declared.text_code.TextCode.{TextCode}
use Rattle.script_lex.proofs.OneList.{tokens_exist}
use Rattle.edit_reader.specs.declared.reading.TheConstants.{MAX_LINE}
use Rattle.edit_reader.specs.Readings.{Changes}
use Rattle.edit_reader.specs.Faults.{without_end}
use Rattle.edit_reader.specs.Lines.{TakenAs}
use Rattle.edit_reader.proofs.Firsts.{taken_once}
use Rattle.edit_reader.proofs.InRange.{taken_moments}
use Rattle.edit_reader.proofs.QuickLines.{told_taken, taken_told}
use Rattle.edit_reader.proofs.quick.read_edit.Goals as goal

pub returns-clause-edit : goal.returns-clause-edit
returns-clause-edit c = λ is.
    subst (λ (b : List ℕ). TakenAs b (Ok (Changes c.read_form.new.room))) c.without_end-line.ensures.line
    (told_taken c.without_end-line.result.now (Changes c.read_form.new.room) c.if-line-gt-MAX_LINE.false (c.read_form.ensures.edit is))

pub returns-clause-only : goal.returns-clause-only
returns-clause-only c = λ is other other_is. taken_once (without_end c.args.line.now) other (Ok (Changes c.read_form.new.room)) other_is (returns-clause-edit c is)

pub returns-clause-moments : goal.returns-clause-moments
returns-clause-moments c = λ is. taken_moments (without_end c.args.line.now) (Changes c.read_form.new.room) (returns-clause-edit c is)

pub returns-then-line-gt-MAX_LINE-clause-others : goal.returns-then-line-gt-MAX_LINE-clause-others
returns-then-line-gt-MAX_LINE-clause-others c = λ edit is.
    let long = subst (λ (b : List ℕ). MAX_LINE < length b) c.without_end-line.ensures.line c.if-line-gt-MAX_LINE.true in
    absurd (is.0 TextCode.Long long)

pub returns-clause-others : goal.returns-clause-others
returns-clause-others c = λ edit is.
    let body = c.without_end-line.result.now in
    let taken = subst (λ (b : List ℕ). TakenAs b (Ok (Changes edit))) (sym c.without_end-line.ensures.line) is in
    let t = tokens_exist body 0 in
    c.read_form.ensures.others t.0 t.1.0 t.1.1 edit (taken_told body edit taken t.0 t.1.0 t.1.1)
