use Rattle.std.proofs.Common.{SFits, w64, to_z-of_z, rules, Ok, refl, sym, ◌∙◌}
use Rattle.std.proofs.lemmas.Result.{err_from_is_err_and}
use Rattle.itpg_base.specs.Words.{Word}
use Rattle.itpg_edit.specs.declared.edit.Edit.{Edit}
use Rattle.edit_reader.specs.Readings.{Changes}
use Rattle.edit_reader.specs.Steps.{name_then}
use Rattle.edit_reader.specs.Forms.{lexemes}
use Rattle.edit_reader.proofs.FormSteps.{live_steps}
use Rattle.edit_reader.proofs.Stepping.{word_step}
use Rattle.edit_reader.proofs.PartSteps.{stops_at_span}
use Rattle.edit_reader.proofs.PartFaults.{name_of, named, overlong}
use Rattle.edit_reader.proofs.edits.live.Goals as goal

pub returns-in_err-from-clause-told : goal.returns-in_err-from-clause-told
returns-in_err-from-clause-told c = λ tokens are.
    let p = err_from_is_err_and c.from_residual-in_err-from.result c.from_residual-in_err-from.ensures.1 in
    let t = c.in_ok-id.ensures.taken tokens are in
    rw (p.1, p.2) (sym (word_step t _ ∙ stops_at_span (lexemes t.rest) (c.in_err-from.ensures.taken t.rest t.behind) (λ from to. name_then c.in_ok-id.id.now (λ a. Ok (Changes (Edit.Live a from to))))))

pub returns-in_default-clause-told : goal.returns-in_default-clause-told
returns-in_default-clause-told c = λ tokens are.
    let t = c.in_ok-id.ensures.taken tokens are in
    sym (live_steps t c.in_ok-from.from c.in_ok-from.to (c.in_ok-from.ensures.taken t.rest t.behind) ∙ overlong _ (refl, c.in_default.ensures.none.0 refl) (λ (a : Word). Ok (Changes (Edit.Live a c.in_ok-from.from c.in_ok-from.to))))

pub returns-clause-told : goal.returns-clause-told
returns-clause-told c = λ tokens are.
    let t = c.in_ok-id.ensures.taken tokens are in
    let from : SFits w64 c.in_ok-from.from = search rules in
    let to : SFits w64 c.in_ok-from.to = search rules in
    let id = name_of c.in-Some.ensures.none.1 c.in-Some.ensures.some in
    simp to_z-of_z (sym (live_steps t c.in_ok-from.from c.in_ok-from.to (c.in_ok-from.ensures.taken t.rest t.behind) ∙ named id (λ (a : Word). Ok (Changes (Edit.Live a c.in_ok-from.from c.in_ok-from.to)))))
