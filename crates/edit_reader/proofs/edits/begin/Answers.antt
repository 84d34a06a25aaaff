use Rattle.std.proofs.Common.{SFits, w64, to_z-of_z, rules, Ok, sym}
use Rattle.std.proofs.lemmas.Result.{err_from_is_err_and}
use Rattle.itpg_edit.specs.declared.edit.Edit.{Edit}
use Rattle.edit_reader.specs.Readings.{Changes}
use Rattle.edit_reader.specs.Forms.{lexemes}
use Rattle.edit_reader.proofs.PartSteps.{goes_on_name_and_span, stops_at_name_and_span}
use Rattle.edit_reader.proofs.edits.begin.Goals as goal

pub returns-in_err-name-clause-told : goal.returns-in_err-name-clause-told
returns-in_err-name-clause-told c = λ tokens are.
    let p = err_from_is_err_and c.from_residual.result c.from_residual.ensures.1 in
    rw (p.1, p.2) (sym (stops_at_name_and_span (lexemes tokens) (c.in_err-name.ensures.taken tokens are) (λ name from to. Ok (Changes (Edit.Begin name from to)))))

pub returns-clause-told : goal.returns-clause-told
returns-clause-told c = λ tokens are.
    let lo : SFits w64 c.in_ok-name.lo = search rules in
    let hi : SFits w64 c.in_ok-name.hi = search rules in
    simp to_z-of_z (sym (goes_on_name_and_span (lexemes tokens) (c.in_ok-name.ensures.taken tokens are) (λ name from to. Ok (Changes (Edit.Begin name from to)))))
