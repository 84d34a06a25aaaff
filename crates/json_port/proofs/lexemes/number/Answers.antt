use Rattle.std.proofs.Common.{◌≡◌, ◌∷◌, w64, subst, sym, ◌∙◌}
use Rattle.std.proofs.lemmas.Int.{to_z_pos}
use Rattle.std.specs.Fmt.{signed_decimal}
use Rattle.json.specs.Token.{number}
use Rattle.json.specs.Lex.{lex, between, token}
use Rattle.json_port.proofs.Fronts.{number_first, negative_first, negated}
use Rattle.json_port.proofs.Ascii.{ascii_digits, ascii_negative}
use Rattle.json_port.proofs.lexemes.number.Goals as goal

pub returns-then-first-ne45-clause-lexeme : goal.returns-then-first-ne45-clause-lexeme
returns-then-first-ne45-clause-lexeme c =
    subst (λ z. lex between c.args.text.now ≡ token (number (signed_decimal z)) ∷ lex between c.in_ok-size.rest.now) (sym (to_z_pos w64 c.in_ok-size.size c.in_ok-size.ensures.fits))
    (number_first c.args.text.now c.after_blanks-text.result.now c.in_ok-size.rest.now c.in_ok-size.size c.after_blanks-text.ensures.lexemes c.in_ok-size.ensures.digits c.in_ok-size.ensures.fits c.in_ok-size.ensures.ended)

pub returns-clause-lexeme : goal.returns-clause-lexeme
returns-clause-lexeme c =
    subst (λ z. lex between c.args.text.now ≡ token (number (signed_decimal z)) ∷ lex between c.in_ok-below.rest.now) (sym (negated c.in_ok-below.below c.in_ok-below.ensures.fits))
    (negative_first c.args.text.now c.after_blanks-text.result.now c.in_ok-first.digits.now c.in_ok-below.rest.now c.in_ok-first.first.now c.in_ok-below.below c.after_blanks-text.ensures.lexemes c.in_ok-first.ensures.cases.0
    c.if-first-ne45.false c.in_ok-below.ensures.digits c.in_ok-below.ensures.fits c.if-below-eq0.false c.in_ok-below.ensures.ended)

pub returns-then-first-ne45-clause-ascii : goal.returns-then-first-ne45-clause-ascii
returns-then-first-ne45-clause-ascii c =
    sym c.after_blanks-text.ensures.ascii ∙ ascii_digits c.after_blanks-text.result.now c.in_ok-size.rest.now c.in_ok-size.size c.in_ok-size.ensures.digits c.in_ok-size.ensures.fits

pub returns-clause-ascii : goal.returns-clause-ascii
returns-clause-ascii c =
    ascii_negative c.args.text.now c.after_blanks-text.result.now c.in_ok-first.digits.now c.in_ok-below.rest.now c.in_ok-first.first.now c.in_ok-below.below c.after_blanks-text.ensures.ascii c.in_ok-first.ensures.cases.0
    c.if-first-ne45.false c.in_ok-below.ensures.digits c.in_ok-below.ensures.fits
