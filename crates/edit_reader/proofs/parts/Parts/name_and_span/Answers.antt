use Rattle.std.proofs.Common.{SFits, w64, to_z-of_z, rules}
use Rattle.std.proofs.lemmas.Result.{err_from_is_err_and}
use Rattle.edit_reader.proofs.PartsTaken.{name_and_span_taken, long_before_span, word_without_span}
use Rattle.edit_reader.proofs.parts.Parts.name_and_span.Goals as goal

pub returns-in_err-from-clause-taken : goal.returns-in_err-from-clause-taken
returns-in_err-from-clause-taken c = λ tokens are.
    let p = err_from_is_err_and c.from_residual-in_err-from.result c.from_residual-in_err-from.ensures.1 in
    let t = c.in_ok-word.ensures.taken tokens are in
    rw (p.1, p.2) (word_without_span t _ (c.in_err-from.ensures.taken t.rest t.behind))

pub returns-in_err-name-clause-taken : goal.returns-in_err-name-clause-taken
returns-in_err-name-clause-taken c = λ tokens are.
    let p = err_from_is_err_and c.from_residual-in_err-name.result c.from_residual-in_err-name.ensures.1 in
    let t = c.in_ok-word.ensures.taken tokens are in
    rw (p.1, p.2) (long_before_span t c.in_ok-from.from c.in_ok-from.to (c.in_ok-from.ensures.taken t.rest t.behind) c.in_err-name.ensures.long)

pub returns-clause-taken : goal.returns-clause-taken
returns-clause-taken c = λ tokens are.
    let from : SFits w64 c.in_ok-from.from = search rules in
    let to : SFits w64 c.in_ok-from.to = search rules in
    let t = c.in_ok-word.ensures.taken tokens are in
    simp to_z-of_z (name_and_span_taken t c.in_ok-from.from c.in_ok-from.to c.in_ok-name.ensures.name (c.in_ok-from.ensures.taken t.rest t.behind))
