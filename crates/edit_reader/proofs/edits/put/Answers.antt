use Rattle.std.proofs.Common.{SFits, w64, to_z-of_z, rules, Ok, refl, sym, ◌∙◌}
use Rattle.std.proofs.lemmas.Result.{err_from_is_err_and}
use Rattle.itpg_base.specs.Words.{Word}
use Rattle.itpg_edit.specs.declared.edit.Edit.{Edit}
use Rattle.edit_reader.specs.Readings.{Changes}
use Rattle.edit_reader.specs.Steps.{name_then}
use Rattle.edit_reader.proofs.FormSteps.{put_steps}
use Rattle.edit_reader.proofs.Stepping.{word_step, quoted_step}
use Rattle.edit_reader.proofs.PartSteps.{stops_at_span}
use Rattle.edit_reader.specs.Forms.{lexemes}
use Rattle.edit_reader.proofs.PartFaults.{name_of, named, overlong}
use Rattle.edit_reader.proofs.edits.put.Goals as goal

pub returns-in_err-from-clause-told : goal.returns-in_err-from-clause-told
returns-in_err-from-clause-told c = λ tokens are.
    let p = err_from_is_err_and c.from_residual-in_err-from.result c.from_residual-in_err-from.ensures.1 in
    let t = c.in_ok-id.ensures.taken tokens are in
    let u = c.in_ok-prop.ensures.taken t.rest t.behind in
    let v = c.in_ok-value.ensures.taken u.rest u.behind in
    rw (p.1, p.2) (sym (word_step t _ ∙ word_step u _ ∙ quoted_step v _ ∙ stops_at_span (lexemes v.rest) (c.in_err-from.ensures.taken v.rest v.behind) (λ from to. name_then c.in_ok-id.id.now (λ a. name_then c.in_ok-prop.prop.now (λ b. name_then c.in_ok-value.value.now (λ v. Ok (Changes (Edit.Put a b v from to))))))))

pub returns-in_default-clause-told : goal.returns-in_default-clause-told
returns-in_default-clause-told c = λ tokens are.
    let t = c.in_ok-id.ensures.taken tokens are in
    let u = c.in_ok-prop.ensures.taken t.rest t.behind in
    let v = c.in_ok-value.ensures.taken u.rest u.behind in
    sym (put_steps t u v c.in_ok-from.from c.in_ok-from.to (c.in_ok-from.ensures.taken v.rest v.behind) ∙ overlong _ (refl, c.in_default.ensures.none.0 refl) (λ (a : Word). name_then c.in_ok-prop.prop.now (λ b. name_then c.in_ok-value.value.now (λ v. Ok (Changes (Edit.Put a b v c.in_ok-from.from c.in_ok-from.to))))))

pub returns-in_default-new-clause-told : goal.returns-in_default-new-clause-told
returns-in_default-new-clause-told c = λ tokens are.
    let t = c.in_ok-id.ensures.taken tokens are in
    let u = c.in_ok-prop.ensures.taken t.rest t.behind in
    let v = c.in_ok-value.ensures.taken u.rest u.behind in
    let id = name_of c.in-Some.ensures.none.1 c.in-Some.ensures.some in
    sym (put_steps t u v c.in_ok-from.from c.in_ok-from.to (c.in_ok-from.ensures.taken v.rest v.behind) ∙ named id (λ (a : Word). name_then c.in_ok-prop.prop.now (λ b. name_then c.in_ok-value.value.now (λ v. Ok (Changes (Edit.Put a b v c.in_ok-from.from c.in_ok-from.to))))) ∙ overlong _ (refl, c.in_default-new.ensures.none.0 refl) (λ (b : Word). name_then c.in_ok-value.value.now (λ v. Ok (Changes (Edit.Put c.in-Some.id b v c.in_ok-from.from c.in_ok-from.to)))))

pub returns-in_default-new-2-clause-told : goal.returns-in_default-new-2-clause-told
returns-in_default-new-2-clause-told c = λ tokens are.
    let t = c.in_ok-id.ensures.taken tokens are in
    let u = c.in_ok-prop.ensures.taken t.rest t.behind in
    let v = c.in_ok-value.ensures.taken u.rest u.behind in
    let id = name_of c.in-Some.ensures.none.1 c.in-Some.ensures.some in
    let prop = name_of c.in-Some-new.ensures.none.1 c.in-Some-new.ensures.some in
    sym (put_steps t u v c.in_ok-from.from c.in_ok-from.to (c.in_ok-from.ensures.taken v.rest v.behind) ∙ named id (λ (a : Word). name_then c.in_ok-prop.prop.now (λ b. name_then c.in_ok-value.value.now (λ v. Ok (Changes (Edit.Put a b v c.in_ok-from.from c.in_ok-from.to))))) ∙ named prop (λ (b : Word). name_then c.in_ok-value.value.now (λ v. Ok (Changes (Edit.Put c.in-Some.id b v c.in_ok-from.from c.in_ok-from.to)))) ∙ overlong _ (refl, c.in_default-new-2.ensures.none.0 refl) (λ (v : Word). Ok (Changes (Edit.Put c.in-Some.id c.in-Some-new.prop v c.in_ok-from.from c.in_ok-from.to))))

pub returns-clause-told : goal.returns-clause-told
returns-clause-told c = λ tokens are.
    let t = c.in_ok-id.ensures.taken tokens are in
    let u = c.in_ok-prop.ensures.taken t.rest t.behind in
    let v = c.in_ok-value.ensures.taken u.rest u.behind in
    let from : SFits w64 c.in_ok-from.from = search rules in
    let to : SFits w64 c.in_ok-from.to = search rules in
    let id = name_of c.in-Some.ensures.none.1 c.in-Some.ensures.some in
    let prop = name_of c.in-Some-new.ensures.none.1 c.in-Some-new.ensures.some in
    let value = name_of c.in-Some-new-2.ensures.none.1 c.in-Some-new-2.ensures.some in
    simp to_z-of_z (sym (put_steps t u v c.in_ok-from.from c.in_ok-from.to (c.in_ok-from.ensures.taken v.rest v.behind) ∙ named id (λ (a : Word). name_then c.in_ok-prop.prop.now (λ b. name_then c.in_ok-value.value.now (λ v. Ok (Changes (Edit.Put a b v c.in_ok-from.from c.in_ok-from.to))))) ∙ named prop (λ (b : Word). name_then c.in_ok-value.value.now (λ v. Ok (Changes (Edit.Put c.in-Some.id b v c.in_ok-from.from c.in_ok-from.to)))) ∙ named value (λ (v : Word). Ok (Changes (Edit.Put c.in-Some.id c.in-Some-new.prop v c.in_ok-from.from c.in_ok-from.to)))))
