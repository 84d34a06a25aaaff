use Rattle.std.proofs.Common.{◌≡◌, ◌+◌, ◌-◌, ◌∷◌, Some, length, take, drop, refl, sym, ap, ◌∙◌}
use Rattle.std.specs.Char.{is_ascii_alphabetic}
use Rattle.itpg_base.proofs.Lists.{take_rest}
use Rattle.script_lex.specs.Lexemes.{ANumber}
use Rattle.script_lex.specs.Table.{first_token, begins_number}
use Rattle.script_lex.proofs.Rows.{number_token, none_there}
use Rattle.script_lex.proofs.Fronts.{token_read}
use Rattle.script_lex.proofs.NextKinds.{is_next, only_next, no_number, no_letter, no_token, first_is, first_split}
use Rattle.script_lex.proofs.wanted.next_number.Goals as goal
use Rattle.script_lex.proofs.wanted.next_number.Goals.{in_default-via-in-Some+else-is_number, in_default-via-in_default}

number_there : (c : goal.After-first_and_run-bytes) → first_token (take (length c.args.line.now - c.skip_blanks-from.result) (drop c.skip_blanks-from.result c.args.line.now)) ≡ Some (ANumber c.first_and_run-bytes.result.now)
number_there c =
    let rest = take (length c.args.line.now - c.skip_blanks-from.result) (drop c.skip_blanks-from.result c.args.line.now) in
    let first = c.in-Some.first.now in
    let at = sym c.in-Some.ensures.value in
    let begins = ap (λ xs. begins_number (first ∷ xs)) (sym (take_rest rest 1)) ∙ sym c.is_number.ensures ∙ c.if-is_number.true in
    number_token rest (ap is_ascii_alphabetic (first_is rest first at) ∙ no_letter first (drop 1 rest) begins) (ap begins_number (sym (first_split rest first at)) ∙ begins)
    ∙ ap (λ n. Some (ANumber n)) (sym c.first_and_run-bytes.ensures)

pub returns-in-Some-clause-number : goal.returns-in-Some-clause-number
returns-in-Some-clause-number c =
    let line = c.args.line.now in
    let from = c.skip_blanks-from.result in
    let rest = take (length line - from) (drop from line) in
    let bytes = c.first_and_run-bytes.result.now in
    is_next line c.args.at from c.skip_blanks-from.ensures.place (ANumber bytes) (from + length bytes) (number_there c) refl

pub returns-in-Some-clause-digits : goal.returns-in-Some-clause-digits
returns-in-Some-clause-digits c =
    let rest = take (length c.args.line.now - c.skip_blanks-from.result) (drop c.skip_blanks-from.result c.args.line.now) in
    (token_read rest (ANumber c.first_and_run-bytes.result.now) (number_there c)).number

pub returns-in_default-clause-none : goal.returns-in_default-clause-none
returns-in_default-clause-none c = λ _ t number next is.
    let line = c.args.line.now in
    let from = c.skip_blanks-from.result in
    let rest = take (length line - from) (drop from line) in
    let e = only_next line c.args.at from c.skip_blanks-from.ensures.place t next ∙ ap Some is in
    elim c.in_default.branch [
      | in_default-via-in-Some+else-is_number w ↦
          no_number w.in-Some.first.now (drop 1 rest) number (ap (λ xs. begins_number (w.in-Some.first.now ∷ xs)) (sym (take_rest rest 1)) ∙ sym w.is_number.ensures ∙ w.if-is_number.false)
          (ap first_token (first_split rest w.in-Some.first.now (sym w.in-Some.ensures.value)) ∙ e)
      | in_default-via-in_default w ↦ no_token (ANumber number) (ap first_token (sym (none_there rest (sym w.in_default.ensures.value))) ∙ e)
    ]
