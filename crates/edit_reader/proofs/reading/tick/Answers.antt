use Rattle.std.proofs.Common.{sym}
use Rattle.std.proofs.lemmas.Result.{err_from_is_err_and}
use Rattle.edit_reader.proofs.PartSteps.{goes_to_end, stops_at_end}
use Rattle.edit_reader.proofs.reading.tick.Goals as goal

pub returns-in_err-end : goal.returns-in_err-end
returns-in_err-end c = λ tokens are.
    let p = err_from_is_err_and c.from_residual.result c.from_residual.ensures.1 in
    rw (p.1, p.2) (sym (stops_at_end tokens (c.in_err-end.ensures.taken tokens are) _))

pub returns : goal.returns
returns c = λ tokens are. sym (goes_to_end tokens (c.in_ok-end.ensures.taken tokens are) _)
