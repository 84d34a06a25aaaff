use Rattle.std.proofs.Common.{sym}
use Rattle.std.proofs.lemmas.Result.{err_from_is_err_and}
use Rattle.edit_reader.proofs.FormSteps.{edge_stops_at_end}
use Rattle.edit_reader.proofs.LabelLists.{one_listed}
use Rattle.edit_reader.proofs.edits.edge.Goals as goal

pub returns-in_err-end-in-None-clause-told : goal.returns-in_err-end-in-None-clause-told
returns-in_err-end-in-None-clause-told c = λ tokens are.
    let p = err_from_is_err_and c.from_residual-in_err-end-in-None.result c.from_residual-in_err-end-in-None.ensures.1 in
    let t = c.in_ok-id.ensures.taken tokens are in
    let u = c.in_ok-label.ensures.taken t.rest t.behind in
    let a = one_listed u (c.in-None.ensures.taken u.rest u.behind) in
    let v = c.in_ok-source-in-None.ensures.taken a.rest a.behind in
    let w = c.in_ok-target-in-None.ensures.taken v.rest v.behind in
    rw (p.1, p.2) (sym (edge_stops_at_end t a v w (c.in_err-end-in-None.ensures.taken w.rest w.behind)))
