use Rattle.std.proofs.Common.{SFits, w64, to_z-of_z, rules, Ok, sym}
use Rattle.std.proofs.lemmas.Result.{err_from_is_err_and}
use Rattle.itpg_edit.specs.declared.edit.Edit.{Edit}
use Rattle.edit_reader.specs.Readings.{Changes}
use Rattle.edit_reader.specs.Forms.{lexemes}
use Rattle.edit_reader.proofs.PartSteps.{goes_on_span, stops_at_span}
use Rattle.edit_reader.proofs.edits.extend.Goals as goal

pub returns-in_err-lo-clause-told : goal.returns-in_err-lo-clause-told
returns-in_err-lo-clause-told c = λ tokens are.
    let p = err_from_is_err_and c.from_residual.result c.from_residual.ensures.1 in
    rw (p.1, p.2) (sym (stops_at_span (lexemes tokens) (c.in_err-lo.ensures.taken tokens are) (λ lo hi. Ok (Changes (Edit.Extend lo hi)))))

pub returns-clause-told : goal.returns-clause-told
returns-clause-told c = λ tokens are.
    let from : SFits w64 c.in_ok-lo.lo = search rules in
    let to : SFits w64 c.in_ok-lo.hi = search rules in
    simp to_z-of_z (sym (goes_on_span (lexemes tokens) (c.in_ok-lo.ensures.taken tokens are) (λ lo hi. Ok (Changes (Edit.Extend lo hi)))))
