use Rattle.std.proofs.Common.{SFits, w64, to_z-of_z, rules, Ok, sym, ◌∙◌}
use Rattle.std.proofs.lemmas.Result.{err_from_is_err_and}
use Rattle.itpg_base.specs.Words.{Word}
use Rattle.itpg_edit.specs.declared.edit.Edit.{Edit}
use Rattle.edit_reader.specs.Readings.{Changes}
use Rattle.edit_reader.specs.Steps.{name_then}
use Rattle.edit_reader.proofs.FormSteps.{clear_steps}
use Rattle.edit_reader.proofs.Stepping.{word_step}
use Rattle.edit_reader.proofs.PartSteps.{stops_at_span}
use Rattle.edit_reader.specs.Forms.{lexemes}
use Rattle.edit_reader.proofs.PartFaults.{named, overlong}
use Rattle.edit_reader.proofs.edits.clear.Goals as goal

pub returns-in_err-from-clause-told : goal.returns-in_err-from-clause-told
returns-in_err-from-clause-told c = λ tokens are.
    let p = err_from_is_err_and c.from_residual-in_err-from.result c.from_residual-in_err-from.ensures.1 in
    let t = c.in_ok-id.ensures.taken tokens are in
    let u = c.in_ok-prop.ensures.taken t.rest t.behind in
    rw (p.1, p.2) (sym (word_step t _ ∙ word_step u _ ∙ stops_at_span (lexemes u.rest) (c.in_err-from.ensures.taken u.rest u.behind) (λ from to. name_then c.in_ok-id.id.now (λ a. name_then c.in_ok-prop.prop.now (λ b. Ok (Changes (Edit.Clear a b from to)))))))

pub returns-in_err-id-2-clause-told : goal.returns-in_err-id-2-clause-told
returns-in_err-id-2-clause-told c = λ tokens are.
    let p = err_from_is_err_and c.from_residual-in_err-id-2.result c.from_residual-in_err-id-2.ensures.1 in
    let t = c.in_ok-id.ensures.taken tokens are in
    let u = c.in_ok-prop.ensures.taken t.rest t.behind in
    rw (p.1, p.2) (sym (clear_steps t u c.in_ok-from.from c.in_ok-from.to (c.in_ok-from.ensures.taken u.rest u.behind) ∙ overlong _ c.in_err-id-2.ensures.long (λ (a : Word). name_then c.in_ok-prop.prop.now (λ b. Ok (Changes (Edit.Clear a b c.in_ok-from.from c.in_ok-from.to))))))

pub returns-in_err-prop-2-clause-told : goal.returns-in_err-prop-2-clause-told
returns-in_err-prop-2-clause-told c = λ tokens are.
    let p = err_from_is_err_and c.from_residual-in_err-prop-2.result c.from_residual-in_err-prop-2.ensures.1 in
    let t = c.in_ok-id.ensures.taken tokens are in
    let u = c.in_ok-prop.ensures.taken t.rest t.behind in
    rw (p.1, p.2) (sym (clear_steps t u c.in_ok-from.from c.in_ok-from.to (c.in_ok-from.ensures.taken u.rest u.behind) ∙ named c.in_ok-id-2.ensures.name (λ (a : Word). name_then c.in_ok-prop.prop.now (λ b. Ok (Changes (Edit.Clear a b c.in_ok-from.from c.in_ok-from.to)))) ∙ overlong _ c.in_err-prop-2.ensures.long (λ (b : Word). Ok (Changes (Edit.Clear c.in_ok-id-2.id b c.in_ok-from.from c.in_ok-from.to)))))

pub returns-clause-told : goal.returns-clause-told
returns-clause-told c = λ tokens are.
    let t = c.in_ok-id.ensures.taken tokens are in
    let u = c.in_ok-prop.ensures.taken t.rest t.behind in
    let from : SFits w64 c.in_ok-from.from = search rules in
    let to : SFits w64 c.in_ok-from.to = search rules in
    simp to_z-of_z (sym (clear_steps t u c.in_ok-from.from c.in_ok-from.to (c.in_ok-from.ensures.taken u.rest u.behind) ∙ named c.in_ok-id-2.ensures.name (λ (a : Word). name_then c.in_ok-prop.prop.now (λ b. Ok (Changes (Edit.Clear a b c.in_ok-from.from c.in_ok-from.to)))) ∙ named c.in_ok-prop-2.ensures.name (λ (b : Word). Ok (Changes (Edit.Clear c.in_ok-id-2.id b c.in_ok-from.from c.in_ok-from.to)))))
