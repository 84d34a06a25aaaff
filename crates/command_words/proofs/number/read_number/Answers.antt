use Rattle.std.proofs.Common.{ℕ, ◌<◌, ◌^◌, Option, MatchOption, arith, refl, subst, sym}
use Rattle.std.proofs.lemmas.Bool.{false≢true}
use Rattle.command_words.specs.Numbers.{AreDigits, Writes}
use Rattle.command_words.proofs.Digits.{number_read}
use Rattle.command_words.proofs.number.read_number.Goals as goal
use Rattle.command_words.proofs.number.read_number.Goals.{then-text-gt-MAX_DIGITS-via-then-text-gt-MAX_DIGITS, then-text-gt-MAX_DIGITS-via-else-text-gt-MAX_DIGITS+then-not-is_decimal}

pub returns-then-text-gt-MAX_DIGITS : goal.returns-then-text-gt-MAX_DIGITS
returns-then-text-gt-MAX_DIGITS c = λ n small writes.
    elim c.then-text-gt-MAX_DIGITS.branch [
      | then-text-gt-MAX_DIGITS-via-then-text-gt-MAX_DIGITS w ↦ omega (arith, writes.few, w.if-text-gt-MAX_DIGITS.true)
      | then-text-gt-MAX_DIGITS-via-else-text-gt-MAX_DIGITS+then-not-is_decimal w ↦ false≢true (w.if-not-is_decimal.ensures.1 writes.digits)
    ]

pub returns : goal.returns
returns c =
    let digits : AreDigits c.args.text.now = c.if-not-is_decimal.ensures.0 refl in
    let P : Option ℕ → Type 0 = λ read. MatchOption read ((n : ℕ) → n < 2 ^ 64 → ¬ Writes c.args.text.now n) (λ n. Writes c.args.text.now n) in
    subst P (sym c.ok.ensures.value) (number_read _ c.args.text.now c.parse.result digits c.if-text-gt-MAX_DIGITS.false c.parse.ensures.value.0)
