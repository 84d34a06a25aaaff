use Rattle.std.proofs.Common.{List, subst}
use Rattle.std.specs.Prelude.{MatchResult}
use Rattle.std.proofs.lemmas.Result.{err_from_is_err_and, MatchResult-from_both}
use Rattle.script_lex.specs.Lexemes.{Lexeme}
use Rattle.edit_reader.specs.Taken.{Names, IsLong, IsOnlyName, NoOnlyName}
use Rattle.edit_reader.proofs.PartsTaken.{word_alone, word_followed}
use Rattle.edit_reader.proofs.parts.Parts.only_name.Goals as goal

pub returns-in_err-end-clause-taken : goal.returns-in_err-end-clause-taken
returns-in_err-end-clause-taken c = λ tokens are.
    let p = err_from_is_err_and c.from_residual-in_err-end.result c.from_residual-in_err-end.ensures.1 in
    let t = c.in_ok-word.ensures.taken tokens are in
    rw (p.1, p.2) (word_followed t (c.in_err-end.ensures.taken t.rest t.behind))

pub returns-clause-taken : goal.returns-clause-taken
returns-clause-taken c = λ tokens are.
    let t = c.in_ok-word.ensures.taken tokens are in
    subst (λ (parts : List Lexeme). MatchResult c.name.result (λ name. IsOnlyName parts name) (λ code. NoOnlyName parts code)) (word_alone t (c.in_ok-end.ensures.taken t.rest t.behind))
    (MatchResult-from_both c.name.result (λ name. Names c.in_ok-word.word.now name) (λ code. IsLong c.in_ok-word.word.now code) c.name.ensures.name c.name.ensures.long)
