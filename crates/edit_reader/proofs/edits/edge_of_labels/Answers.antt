use Rattle.std.proofs.Common.{Ok, Err, sym, ◌∙◌, ap}
use Rattle.std.proofs.lemmas.Result.{err_from_is_err_and}
use Rattle.itpg_base.specs.Words.{Word}
use Rattle.itpg_edit.specs.declared.edit.Edit.{Edit}
use Rattle.edit_reader.specs.Forms.{lexemes}
use Rattle.edit_reader.specs.Labels.{Listed, set_of}
use Rattle.edit_reader.specs.Readings.{Changes}
use Rattle.edit_reader.specs.Steps.{name_then, names_then}
use Rattle.edit_reader.proofs.FormSteps.{edge_stops_at_list, edge_stops_at_source, edge_stops_at_target, edge_stops_at_end, edge_steps}
use Rattle.edit_reader.proofs.LabelLists.{names_short, names_long}
use Rattle.edit_reader.proofs.PartFaults.{named, overlong}
use Rattle.edit_reader.proofs.edits.edge_of_labels.Goals as goal

pub returns-in_err-rest-clause-told : goal.returns-in_err-rest-clause-told
returns-in_err-rest-clause-told c = λ tokens are.
    let p = err_from_is_err_and c.from_residual-in_err-rest.result c.from_residual-in_err-rest.ensures.1 in
    let t = c.in_ok-id.ensures.taken tokens are in
    rw (p.1, p.2) (sym (edge_stops_at_list t (c.in_err-rest.ensures.taken t.rest t.behind)))

pub returns-in_err-source-clause-told : goal.returns-in_err-source-clause-told
returns-in_err-source-clause-told c = λ tokens are.
    let p = err_from_is_err_and c.from_residual-in_err-source.result c.from_residual-in_err-source.ensures.1 in
    let t = c.in_ok-id.ensures.taken tokens are in
    let a = c.in_ok-rest.ensures.taken t.rest t.behind in
    rw (p.1, p.2) (sym (edge_stops_at_source t a (c.in_err-source.ensures.taken a.rest a.behind)))

pub returns-in_err-target-clause-told : goal.returns-in_err-target-clause-told
returns-in_err-target-clause-told c = λ tokens are.
    let p = err_from_is_err_and c.from_residual-in_err-target.result c.from_residual-in_err-target.ensures.1 in
    let t = c.in_ok-id.ensures.taken tokens are in
    let a = c.in_ok-rest.ensures.taken t.rest t.behind in
    let v = c.in_ok-source.ensures.taken a.rest a.behind in
    rw (p.1, p.2) (sym (edge_stops_at_target t a v (c.in_err-target.ensures.taken v.rest v.behind)))

pub returns-in_err-end-clause-told : goal.returns-in_err-end-clause-told
returns-in_err-end-clause-told c = λ tokens are.
    let p = err_from_is_err_and c.from_residual-in_err-end.result c.from_residual-in_err-end.ensures.1 in
    let t = c.in_ok-id.ensures.taken tokens are in
    let a = c.in_ok-rest.ensures.taken t.rest t.behind in
    let v = c.in_ok-source.ensures.taken a.rest a.behind in
    let w = c.in_ok-target.ensures.taken v.rest v.behind in
    rw (p.1, p.2) (sym (edge_stops_at_end t a v w (c.in_err-end.ensures.taken w.rest w.behind)))

pub returns-in_err-id-2-clause-told : goal.returns-in_err-id-2-clause-told
returns-in_err-id-2-clause-told c = λ tokens are.
    let p = err_from_is_err_and c.from_residual-in_err-id-2.result c.from_residual-in_err-id-2.ensures.1 in
    let t = c.in_ok-id.ensures.taken tokens are in
    let a = c.in_ok-rest.ensures.taken t.rest t.behind in
    let v = c.in_ok-source.ensures.taken a.rest a.behind in
    let w = c.in_ok-target.ensures.taken v.rest v.behind in
    rw (p.1, p.2) (sym (edge_steps t a v w (c.in_ok-end.ensures.taken w.rest w.behind) ∙ overlong _ c.in_err-id-2.ensures.long (λ (x : Word). names_then a.words (name_then c.in_ok-source.source.now (λ s. name_then c.in_ok-target.target.now (λ t. Ok (Changes (Edit.AddEdge x (set_of a.words) s t))))))))

pub returns-in_err-labels-clause-told : goal.returns-in_err-labels-clause-told
returns-in_err-labels-clause-told c = λ tokens are.
    let p = err_from_is_err_and c.from_residual-in_err-labels.result c.from_residual-in_err-labels.ensures.1 in
    let t = c.in_ok-id.ensures.taken tokens are in
    let a = c.in_ok-rest.ensures.taken t.rest t.behind in
    let v = c.in_ok-source.ensures.taken a.rest a.behind in
    let w = c.in_ok-target.ensures.taken v.rest v.behind in
    let l : Listed = record { words = a.words; rest = lexemes a.rest } in
    let s = c.in_err-labels.ensures t.rest t.behind l a.are in
    rw (p.1, p.2) (sym (edge_steps t a v w (c.in_ok-end.ensures.taken w.rest w.behind) ∙ named c.in_ok-id-2.ensures.name (λ (x : Word). names_then a.words (name_then c.in_ok-source.source.now (λ s. name_then c.in_ok-target.target.now (λ t. Ok (Changes (Edit.AddEdge x (set_of a.words) s t)))))) ∙ names_long a.words (name_then c.in_ok-source.source.now (λ s. name_then c.in_ok-target.target.now (λ t. Ok (Changes (Edit.AddEdge c.in_ok-id-2.id (set_of a.words) s t))))) s.1 ∙ ap Err (sym s.0)))

pub returns-in_err-source-2-clause-told : goal.returns-in_err-source-2-clause-told
returns-in_err-source-2-clause-told c = λ tokens are.
    let p = err_from_is_err_and c.from_residual-in_err-source-2.result c.from_residual-in_err-source-2.ensures.1 in
    let t = c.in_ok-id.ensures.taken tokens are in
    let a = c.in_ok-rest.ensures.taken t.rest t.behind in
    let v = c.in_ok-source.ensures.taken a.rest a.behind in
    let w = c.in_ok-target.ensures.taken v.rest v.behind in
    let l : Listed = record { words = a.words; rest = lexemes a.rest } in
    let s = c.in_ok-labels.ensures t.rest t.behind l a.are in
    rw (p.1, p.2) (sym (edge_steps t a v w (c.in_ok-end.ensures.taken w.rest w.behind) ∙ named c.in_ok-id-2.ensures.name (λ (x : Word). names_then a.words (name_then c.in_ok-source.source.now (λ s. name_then c.in_ok-target.target.now (λ t. Ok (Changes (Edit.AddEdge x (set_of a.words) s t)))))) ∙ names_short a.words (name_then c.in_ok-source.source.now (λ s. name_then c.in_ok-target.target.now (λ t. Ok (Changes (Edit.AddEdge c.in_ok-id-2.id (set_of a.words) s t))))) s.0 ∙ overlong _ c.in_err-source-2.ensures.long (λ (s : Word). name_then c.in_ok-target.target.now (λ t. Ok (Changes (Edit.AddEdge c.in_ok-id-2.id (set_of a.words) s t))))))

pub returns-in_err-target-2-clause-told : goal.returns-in_err-target-2-clause-told
returns-in_err-target-2-clause-told c = λ tokens are.
    let p = err_from_is_err_and c.from_residual-in_err-target-2.result c.from_residual-in_err-target-2.ensures.1 in
    let t = c.in_ok-id.ensures.taken tokens are in
    let a = c.in_ok-rest.ensures.taken t.rest t.behind in
    let v = c.in_ok-source.ensures.taken a.rest a.behind in
    let w = c.in_ok-target.ensures.taken v.rest v.behind in
    let l : Listed = record { words = a.words; rest = lexemes a.rest } in
    let s = c.in_ok-labels.ensures t.rest t.behind l a.are in
    rw (p.1, p.2) (sym (edge_steps t a v w (c.in_ok-end.ensures.taken w.rest w.behind) ∙ named c.in_ok-id-2.ensures.name (λ (x : Word). names_then a.words (name_then c.in_ok-source.source.now (λ s. name_then c.in_ok-target.target.now (λ t. Ok (Changes (Edit.AddEdge x (set_of a.words) s t)))))) ∙ names_short a.words (name_then c.in_ok-source.source.now (λ s. name_then c.in_ok-target.target.now (λ t. Ok (Changes (Edit.AddEdge c.in_ok-id-2.id (set_of a.words) s t))))) s.0 ∙ named c.in_ok-source-2.ensures.name (λ (s : Word). name_then c.in_ok-target.target.now (λ t. Ok (Changes (Edit.AddEdge c.in_ok-id-2.id (set_of a.words) s t)))) ∙ overlong _ c.in_err-target-2.ensures.long (λ (t : Word). Ok (Changes (Edit.AddEdge c.in_ok-id-2.id (set_of a.words) c.in_ok-source-2.source t)))))

pub returns-clause-told : goal.returns-clause-told
returns-clause-told c = λ tokens are.
    let t = c.in_ok-id.ensures.taken tokens are in
    let a = c.in_ok-rest.ensures.taken t.rest t.behind in
    let v = c.in_ok-source.ensures.taken a.rest a.behind in
    let w = c.in_ok-target.ensures.taken v.rest v.behind in
    let l : Listed = record { words = a.words; rest = lexemes a.rest } in
    let s = c.in_ok-labels.ensures t.rest t.behind l a.are in
    sym (edge_steps t a v w (c.in_ok-end.ensures.taken w.rest w.behind) ∙ named c.in_ok-id-2.ensures.name (λ (x : Word). names_then a.words (name_then c.in_ok-source.source.now (λ s. name_then c.in_ok-target.target.now (λ t. Ok (Changes (Edit.AddEdge x (set_of a.words) s t)))))) ∙ names_short a.words (name_then c.in_ok-source.source.now (λ s. name_then c.in_ok-target.target.now (λ t. Ok (Changes (Edit.AddEdge c.in_ok-id-2.id (set_of a.words) s t))))) s.0 ∙ named c.in_ok-source-2.ensures.name (λ (s : Word). name_then c.in_ok-target.target.now (λ t. Ok (Changes (Edit.AddEdge c.in_ok-id-2.id (set_of a.words) s t)))) ∙ named c.in_ok-target-2.ensures.name (λ (t : Word). Ok (Changes (Edit.AddEdge c.in_ok-id-2.id (set_of a.words) c.in_ok-source-2.source t))) ∙ ap (λ labels. Ok (Changes (Edit.AddEdge c.in_ok-id-2.id labels c.in_ok-source-2.source c.in_ok-target-2.target))) (sym s.1))
