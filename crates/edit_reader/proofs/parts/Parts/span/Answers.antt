use Rattle.std.proofs.Common.{SFits, w64, to_z-of_z, rules}
use Rattle.std.proofs.lemmas.Result.{err_from_is_err_and}
use Rattle.edit_reader.proofs.PartsTaken.{span_taken, first_far, second_far, span_followed}
use Rattle.edit_reader.proofs.parts.Parts.span.Goals as goal

pub returns-in_err-end-clause-taken : goal.returns-in_err-end-clause-taken
returns-in_err-end-clause-taken c = λ tokens are.
    let p = err_from_is_err_and c.from_residual-in_err-end.result c.from_residual-in_err-end.ensures.1 in
    let t = c.in_ok-from.ensures.taken tokens are in
    let u = c.in_ok-to.ensures.taken t.rest t.behind in
    rw (p.1, p.2) (span_followed t u (c.in_err-end.ensures.taken u.rest u.behind))

pub returns-in_err-moment-clause-taken : goal.returns-in_err-moment-clause-taken
returns-in_err-moment-clause-taken c = λ tokens are.
    let p = err_from_is_err_and c.from_residual-in_err-moment.result c.from_residual-in_err-moment.ensures.1 in
    let t = c.in_ok-from.ensures.taken tokens are in
    let u = c.in_ok-to.ensures.taken t.rest t.behind in
    rw (p.1, p.2) (first_far t u (c.in_ok-end.ensures.taken u.rest u.behind) c.in_err-moment.ensures.far)

pub returns-in_err-moment-2-clause-taken : goal.returns-in_err-moment-2-clause-taken
returns-in_err-moment-2-clause-taken c = λ tokens are.
    let p = err_from_is_err_and c.from_residual-in_err-moment-2.result c.from_residual-in_err-moment-2.ensures.1 in
    let t = c.in_ok-from.ensures.taken tokens are in
    let u = c.in_ok-to.ensures.taken t.rest t.behind in
    rw (p.1, p.2) (second_far t u (c.in_ok-end.ensures.taken u.rest u.behind) c.in_err-moment-2.ensures.far)

pub returns-clause-taken : goal.returns-clause-taken
returns-clause-taken c = λ tokens are.
    let from : SFits w64 c.in_ok-moment.field-0 = search rules in
    let to : SFits w64 c.in_ok-moment-2.field-0 = search rules in
    let t = c.in_ok-from.ensures.taken tokens are in
    let u = c.in_ok-to.ensures.taken t.rest t.behind in
    simp to_z-of_z (span_taken t u (c.in_ok-end.ensures.taken u.rest u.behind) c.in_ok-moment.ensures.moment c.in_ok-moment-2.ensures.moment)
