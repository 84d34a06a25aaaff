use Rattle.std.proofs.Common.{SFits, w64, to_z-of_z, rules, Ok, sym}
use Rattle.std.proofs.lemmas.Result.{err_from_is_err_and}
use Rattle.itpg_edit.specs.declared.edit.Edit.{Edit}
use Rattle.edit_reader.specs.Readings.{Changes}
use Rattle.edit_reader.specs.Forms.{lexemes}
use Rattle.edit_reader.proofs.PartSteps.{goes_on_name_and_span, stops_at_name_and_span}
use Rattle.edit_reader.proofs.edits.gone.Goals as goal

pub returns-in_err-id-clause-told : goal.returns-in_err-id-clause-told
returns-in_err-id-clause-told c = λ tokens are.
    let p = err_from_is_err_and c.from_residual.result c.from_residual.ensures.1 in
    rw (p.1, p.2) (sym (stops_at_name_and_span (lexemes tokens) (c.in_err-id.ensures.taken tokens are) (λ name from to. Ok (Changes (Edit.Gone name from to)))))

pub returns-clause-told : goal.returns-clause-told
returns-clause-told c = λ tokens are.
    let from : SFits w64 c.in_ok-id.from = search rules in
    let to : SFits w64 c.in_ok-id.to = search rules in
    simp to_z-of_z (sym (goes_on_name_and_span (lexemes tokens) (c.in_ok-id.ensures.taken tokens are) (λ name from to. Ok (Changes (Edit.Gone name from to)))))
