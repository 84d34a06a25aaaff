use Rattle.std.proofs.Common.{Ok, Err, sym, ◌∙◌, ap}
use Rattle.std.proofs.lemmas.Result.{err_from_is_err_and}
use Rattle.itpg_base.specs.Words.{Word}
use Rattle.itpg_edit.specs.declared.edit.Edit.{Edit}
use Rattle.edit_reader.specs.Forms.{lexemes}
use Rattle.edit_reader.specs.Labels.{Listed, set_of}
use Rattle.edit_reader.specs.Readings.{Changes}
use Rattle.edit_reader.specs.Steps.{Told, names_then}
use Rattle.edit_reader.proofs.FormSteps.{node_stops_at_list, node_stops_at_end, node_steps}
use Rattle.edit_reader.proofs.LabelLists.{names_short, names_long}
use Rattle.edit_reader.proofs.PartFaults.{named, overlong}
use Rattle.edit_reader.proofs.edits.node_of_labels.Goals as goal

pub returns-in_err-rest-clause-told : goal.returns-in_err-rest-clause-told
returns-in_err-rest-clause-told c = λ tokens are.
    let p = err_from_is_err_and c.from_residual-in_err-rest.result c.from_residual-in_err-rest.ensures.1 in
    let t = c.in_ok-id.ensures.taken tokens are in
    rw (p.1, p.2) (sym (node_stops_at_list t (c.in_err-rest.ensures.taken t.rest t.behind)))

pub returns-in_err-end-clause-told : goal.returns-in_err-end-clause-told
returns-in_err-end-clause-told c = λ tokens are.
    let p = err_from_is_err_and c.from_residual-in_err-end.result c.from_residual-in_err-end.ensures.1 in
    let t = c.in_ok-id.ensures.taken tokens are in
    let a = c.in_ok-rest.ensures.taken t.rest t.behind in
    rw (p.1, p.2) (sym (node_stops_at_end t a (c.in_err-end.ensures.taken a.rest a.behind)))

pub returns-in_err-id-2-clause-told : goal.returns-in_err-id-2-clause-told
returns-in_err-id-2-clause-told c = λ tokens are.
    let p = err_from_is_err_and c.from_residual-in_err-id-2.result c.from_residual-in_err-id-2.ensures.1 in
    let t = c.in_ok-id.ensures.taken tokens are in
    let a = c.in_ok-rest.ensures.taken t.rest t.behind in
    rw (p.1, p.2) (sym (node_steps t a (c.in_ok-end.ensures.taken a.rest a.behind) ∙ overlong _ c.in_err-id-2.ensures.long (λ (x : Word). names_then a.words (Ok (Changes (Edit.AddNode x (set_of a.words)))))))

pub returns-in_err-labels-clause-told : goal.returns-in_err-labels-clause-told
returns-in_err-labels-clause-told c = λ tokens are.
    let p = err_from_is_err_and c.from_residual-in_err-labels.result c.from_residual-in_err-labels.ensures.1 in
    let t = c.in_ok-id.ensures.taken tokens are in
    let a = c.in_ok-rest.ensures.taken t.rest t.behind in
    let l : Listed = record { words = a.words; rest = lexemes a.rest } in
    let s = c.in_err-labels.ensures t.rest t.behind l a.are in
    rw (p.1, p.2) (sym (node_steps t a (c.in_ok-end.ensures.taken a.rest a.behind) ∙ named c.in_ok-id-2.ensures.name (λ (x : Word). names_then a.words (Ok (Changes (Edit.AddNode x (set_of a.words))))) ∙ names_long a.words (let go : Told = Ok (Changes (Edit.AddNode c.in_ok-id-2.id (set_of a.words))) in go) s.1 ∙ ap Err (sym s.0)))

pub returns-clause-told : goal.returns-clause-told
returns-clause-told c = λ tokens are.
    let t = c.in_ok-id.ensures.taken tokens are in
    let a = c.in_ok-rest.ensures.taken t.rest t.behind in
    let l : Listed = record { words = a.words; rest = lexemes a.rest } in
    let s = c.in_ok-labels.ensures t.rest t.behind l a.are in
    sym (node_steps t a (c.in_ok-end.ensures.taken a.rest a.behind) ∙ named c.in_ok-id-2.ensures.name (λ (x : Word). names_then a.words (Ok (Changes (Edit.AddNode x (set_of a.words))))) ∙ names_short a.words (let go : Told = Ok (Changes (Edit.AddNode c.in_ok-id-2.id (set_of a.words))) in go) s.0 ∙ ap (λ labels. Ok (Changes (Edit.AddNode c.in_ok-id-2.id labels))) (sym s.1))
