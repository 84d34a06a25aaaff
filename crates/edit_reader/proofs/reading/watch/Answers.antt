use Rattle.std.proofs.Common.{◌≡◌, List, ℕ, Ok, sym, ◌∙◌, ap, ap₂, drop}
use Rattle.std.specs.Prelude.{slice_get}
use Rattle.std.proofs.lemmas.Result.{err_from_is_err_and}
use Rattle.itpg_base.specs.Words.{Word}
use Rattle.script_lex.specs.Lines.{Placed}
use Rattle.edit_reader.specs.Readings.{Watches}
use Rattle.edit_reader.specs.Forms.{bytes_behind}
use Rattle.edit_reader.proofs.Stepping.{word_step}
use Rattle.edit_reader.proofs.PartFaults.{named, overlong}
use Rattle.edit_reader.proofs.reading.watch.Goals as goal

pub returns-in_err-name : goal.returns-in_err-name
returns-in_err-name c = λ tokens are.
    let p = err_from_is_err_and c.from_residual-in_err-name.result c.from_residual-in_err-name.ensures.1 in
    let t = c.in_ok-word.ensures.taken tokens are in
    rw (p.1, p.2) (sym (word_step t _ ∙ overlong _ c.in_err-name.ensures.long (λ (name : Word). Ok (Watches name (bytes_behind c.args.parts.line.now (slice_get tokens 0))))))

pub returns : goal.returns
returns c = λ tokens are.
    let t = c.in_ok-word.ensures.taken tokens are in
    let text : c.text.result.now ≡ bytes_behind c.args.parts.line.now (slice_get tokens 0) =
    c.text.ensures ∙ ap₂ (λ (at : ℕ) (line : List ℕ). drop at line) t.to t.same ∙ ap (λ (ts : List Placed). bytes_behind c.args.parts.line.now (slice_get ts 0)) (sym t.are) in
    sym (word_step t _ ∙ named c.in_ok-name.ensures.name (λ (name : Word). Ok (Watches name (bytes_behind c.args.parts.line.now (slice_get tokens 0)))) ∙ ap (λ query. Ok (Watches c.in_ok-name.field-0 query)) (sym text))
