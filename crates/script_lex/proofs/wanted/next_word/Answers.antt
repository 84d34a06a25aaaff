use Rattle.std.proofs.Common.{◌+◌, ◌-◌, Some, length, take, drop, refl, sym, ap, ◌∙◌}
use Rattle.std.specs.Char.{is_ascii_alphabetic}
use Rattle.script_lex.specs.Lexemes.{AWord}
use Rattle.script_lex.specs.Table.{first_token}
use Rattle.script_lex.proofs.Rows.{word_token, none_there}
use Rattle.script_lex.proofs.NextKinds.{is_next, only_next, no_word, no_token, first_is, first_split}
use Rattle.script_lex.proofs.wanted.next_word.Goals as goal
use Rattle.script_lex.proofs.wanted.next_word.Goals.{in_default-via-in-Some+else-is_ascii_alphabetic, in_default-via-in_default}

pub returns-in-Some-clause-word : goal.returns-in-Some-clause-word
returns-in-Some-clause-word c =
    let line = c.args.line.now in
    let from = c.skip_blanks-from.result in
    let rest = take (length line - from) (drop from line) in
    let bytes = c.first_and_run-bytes.result.now in
    let letter = ap is_ascii_alphabetic (first_is rest c.in-Some.first.now (sym c.in-Some.ensures.value)) ∙ sym c.is_ascii_alphabetic.ensures.value ∙ c.if-is_ascii_alphabetic.true in
    is_next line c.args.at from c.skip_blanks-from.ensures.place (AWord bytes) (from + length bytes)
    (word_token rest letter ∙ ap (λ w. Some (AWord w)) (sym c.first_and_run-bytes.ensures)) refl

pub returns-in_default-clause-none : goal.returns-in_default-clause-none
returns-in_default-clause-none c = λ _ t word next is.
    let line = c.args.line.now in
    let from = c.skip_blanks-from.result in
    let rest = take (length line - from) (drop from line) in
    let e = only_next line c.args.at from c.skip_blanks-from.ensures.place t next ∙ ap Some is in
    elim c.in_default.branch [
      | in_default-via-in-Some+else-is_ascii_alphabetic w ↦
          no_word w.in-Some.first.now (drop 1 rest) word (sym w.is_ascii_alphabetic.ensures.value ∙ w.if-is_ascii_alphabetic.false)
          (ap first_token (first_split rest w.in-Some.first.now (sym w.in-Some.ensures.value)) ∙ e)
      | in_default-via-in_default w ↦ no_token (AWord word) (ap first_token (sym (none_there rest (sym w.in_default.ensures.value))) ∙ e)
    ]
