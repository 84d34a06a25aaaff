use Rattle.std.proofs.Common.{sym, ap, ◌∙◌, Some}
use Rattle.std.specs.Prelude.{option_map}
use Rattle.script_lex.specs.Lexemes.{AWord, ANumber, AMark}
use Rattle.script_lex.specs.Marks.{mark_of}
use Rattle.script_lex.specs.Table.{begins_number}
use Rattle.script_lex.proofs.Rows.{word_token, number_token, mark_token, byte_without_quote, first_and_rest}
use Rattle.script_lex.proofs.lexing.read_token.Goals as goal

pub returns-then-is_ascii_alphabetic-clause-token : goal.returns-then-is_ascii_alphabetic-clause-token
returns-then-is_ascii_alphabetic-clause-token c =
    word_token c.args.bytes.now (sym c.is_ascii_alphabetic.ensures.value ∙ c.if-is_ascii_alphabetic.true) ∙ ap (λ w. Some (AWord w)) (sym c.first_and_run.ensures)

pub returns-then-is_number-clause-token : goal.returns-then-is_number-clause-token
returns-then-is_number-clause-token c =
    let number = ap begins_number (sym (first_and_rest c.args.bytes.now c.requires)) ∙ sym c.is_number.ensures ∙ c.if-is_number.true in
    number_token c.args.bytes.now (sym c.is_ascii_alphabetic.ensures.value ∙ c.if-is_ascii_alphabetic.false) number ∙ ap (λ n. Some (ANumber n)) (sym c.first_and_run-then-is_number.ensures)

pub returns-in-Some-clause-token : goal.returns-in-Some-clause-token
returns-in-Some-clause-token c =
    let whole = first_and_rest c.args.bytes.now c.requires in
    let number = ap begins_number (sym whole) ∙ sym c.is_number.ensures ∙ c.if-is_number.false in
    mark_token c.args.bytes.now c.requires (sym c.is_ascii_alphabetic.ensures.value ∙ c.if-is_ascii_alphabetic.false) number c.if-first-eq39.false ∙ ap (option_map AMark) (ap mark_of (sym whole) ∙ sym c.read_mark.ensures ∙ c.in-Some.is)

pub returns-in-None-clause-fault : goal.returns-in-None-clause-fault
returns-in-None-clause-fault c =
    let whole = first_and_rest c.args.bytes.now c.requires in
    let number = ap begins_number (sym whole) ∙ sym c.is_number.ensures ∙ c.if-is_number.false in (
      mark_token c.args.bytes.now c.requires (sym c.is_ascii_alphabetic.ensures.value ∙ c.if-is_ascii_alphabetic.false) number c.if-first-eq39.false ∙ ap (option_map AMark) (ap mark_of (sym whole) ∙ sym c.read_mark.ensures ∙ c.in-None.is),
      byte_without_quote c.args.bytes.now c.if-first-eq39.false,
    )
