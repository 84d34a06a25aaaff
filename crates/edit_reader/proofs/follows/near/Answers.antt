use Rattle.std.proofs.Common.{sym, ◌∙◌}
use Rattle.std.proofs.lemmas.Result.{err_from_is_err_and}
use Rattle.edit_reader.proofs.Stepping.{word_step}
use Rattle.edit_reader.proofs.PartSteps.{stops_at_end}
use Rattle.edit_reader.proofs.follows.near.Goals as goal

pub returns-in_err-end : goal.returns-in_err-end
returns-in_err-end c = λ tokens are.
    let p = err_from_is_err_and c.from_residual-in_err-end.result c.from_residual-in_err-end.ensures.1 in
    let t = c.in_ok-follow.ensures.taken tokens are in
    let u = c.in_ok-id.ensures.taken t.rest t.behind in
    rw (p.1, p.2) (sym (word_step t _ ∙ word_step u _ ∙ stops_at_end u.rest (c.in_err-end.ensures.taken u.rest u.behind) _))
