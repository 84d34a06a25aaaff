use Rattle.std.proofs.Common.{Ok, sym}
use Rattle.std.proofs.lemmas.Result.{err_from_is_err_and}
use Rattle.edit_reader.specs.Readings.{Unwatches}
use Rattle.edit_reader.specs.Forms.{lexemes}
use Rattle.edit_reader.proofs.PartSteps.{goes_on_only_name, stops_at_only_name}
use Rattle.edit_reader.proofs.reading.unwatch.Goals as goal

pub returns-in_err-only_name : goal.returns-in_err-only_name
returns-in_err-only_name c = λ tokens are.
    let p = err_from_is_err_and c.from_residual.result c.from_residual.ensures.1 in
    rw (p.1, p.2) (sym (stops_at_only_name (lexemes tokens) (c.in_err-only_name.ensures.taken tokens are) _))

pub returns : goal.returns
returns c = λ tokens are. sym (goes_on_only_name (lexemes tokens) (c.in_ok-only_name.ensures.taken tokens are) (λ name. Ok (Unwatches name)))
