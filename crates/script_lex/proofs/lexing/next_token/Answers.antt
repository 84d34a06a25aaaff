use Rattle.std.proofs.Common.{◌-◌, length, take, drop, sym, ◌∙◌, refl, subst, arith, true≢false}
use Rattle.std.specs.Prelude.{IsErr}
use Rattle.script_lex.specs.Lexemes.{lexeme}
use Rattle.std.proofs.lemmas.Result.{err_from_is_err_and}
use Rattle.script_lex.proofs.Rows.{one_of_two}
use Rattle.script_lex.proofs.Fronts.{token_read}
use Rattle.script_lex.proofs.Places.{blank_end, not_blank, empty_rest, some_rest, token_inside, token_at}
use Rattle.script_lex.proofs.lexing.next_token.Goals as goal

pub returns-then-is_empty-clause-ended : goal.returns-then-is_empty-clause-ended
returns-then-is_empty-clause-ended c =
    let empty = empty_rest c.args.line.now c.skip_blanks-from.result (sym c.is_empty.ensures ∙ c.if-is_empty.true) in
    (λ _. blank_end c.args.line.now c.args.at (omega (arith, empty, c.skip_blanks-from.ensures.place)), λ _. refl)

pub returns-in_err-what-clause-ended : goal.returns-in_err-what-clause-ended
returns-in_err-what-clause-ended c =
    let some = some_rest c.args.line.now c.skip_blanks-from.result (sym c.is_empty.ensures ∙ c.if-is_empty.false) in (
      λ e. absurd (true≢false (sym (subst IsErr e c.from_residual.ensures.0))),
      λ blank. absurd (not_blank c.args.line.now c.args.at (omega (arith, some, c.skip_blanks-from.ensures.place)) blank),
    )

pub returns-clause-ended : goal.returns-clause-ended
returns-clause-ended c =
    let some = some_rest c.args.line.now c.skip_blanks-from.result (sym c.is_empty.ensures ∙ c.if-is_empty.false) in (
      λ e. absurd (let none : ⊥ = cc in none),
      λ blank. absurd (not_blank c.args.line.now c.args.at (omega (arith, some, c.skip_blanks-from.ensures.place)) blank),
    )

pub returns-clause-number : goal.returns-clause-number
returns-clause-number c =
    let what = token_at c.args.line.now c.skip_blanks-from.result (lexeme c.in_ok-what.what) c.in_ok-what.ensures.token in
    (token_read (drop c.skip_blanks-from.result c.args.line.now) (lexeme c.in_ok-what.what) what).number

pub returns-clause-within : goal.returns-clause-within
returns-clause-within c =
    let what = token_at c.args.line.now c.skip_blanks-from.result (lexeme c.in_ok-what.what) c.in_ok-what.ensures.token in
    let inside = token_inside c.args.line.now c.skip_blanks-from.result (lexeme c.in_ok-what.what) what in
    (omega (arith, c.skip_blanks-from.ensures.place), omega (arith, inside.some, c.width.ensures), omega (arith, inside.fits, c.width.ensures))

pub returns-in_err-what-clause-codes : goal.returns-in_err-what-clause-codes
returns-in_err-what-clause-codes c =
    let p = err_from_is_err_and c.from_residual.result c.from_residual.ensures.1 in
    let rest = take (length c.args.line.now - c.skip_blanks-from.result) (drop c.skip_blanks-from.result c.args.line.now) in
    rw (p.1, p.2) (one_of_two rest c.in_err-what.field-0.0 c.in_err-what.ensures.fault.1)
