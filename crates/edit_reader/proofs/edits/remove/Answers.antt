use Rattle.std.proofs.Common.{Ok, sym}
use Rattle.std.proofs.lemmas.Result.{err_from_is_err_and}
use Rattle.itpg_edit.specs.declared.edit.Edit.{Edit}
use Rattle.edit_reader.specs.Readings.{Changes}
use Rattle.edit_reader.specs.Forms.{lexemes}
use Rattle.edit_reader.proofs.PartSteps.{goes_on_only_name, stops_at_only_name}
use Rattle.edit_reader.proofs.edits.remove.Goals as goal

pub returns-in_err-id-clause-told : goal.returns-in_err-id-clause-told
returns-in_err-id-clause-told c = λ tokens are.
    let p = err_from_is_err_and c.from_residual.result c.from_residual.ensures.1 in
    rw (p.1, p.2) (sym (stops_at_only_name (lexemes tokens) (c.in_err-id.ensures.taken tokens are) _))

pub returns-clause-told : goal.returns-clause-told
returns-clause-told c = λ tokens are. sym (goes_on_only_name (lexemes tokens) (c.in_ok-id.ensures.taken tokens are) (λ name. Ok (Changes (Edit.Remove name))))
