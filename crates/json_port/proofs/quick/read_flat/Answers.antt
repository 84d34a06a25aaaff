use Rattle.std.proofs.Common.{◌≡◌, [], ◌∙◌, sym, ap}
use Rattle.std.proofs.lemmas.Bool.{eqb-true}
use Rattle.std.proofs.lemmas.List.{nil_from_length}
use Rattle.std.proofs.lemmas.Str.{IsUtf8-from_ascii}
use Rattle.json_port.specs.Flats.{listed, are_ascii}
use Rattle.json_port.specs.FlatObjects.{flat_members}
use Rattle.json_port.proofs.FlatTokens.{flat_read}
use Rattle.json_port.proofs.Ascii.{ascii_at}
use Rattle.json_port.proofs.quick.read_flat.Goals as goal

pub returns-then-is_empty-clause-utf8 : goal.returns-then-is_empty-clause-utf8
returns-then-is_empty-clause-utf8 c =
    let none : c.after_blanks.result.now ≡ [] = nil_from_length c.after_blanks.result.now (eqb-true _ 0 (sym c.is_empty.ensures ∙ c.if-is_empty.true)) in
    IsUtf8-from_ascii c.args.line.now (ascii_at c.args.line.now (c.in_ok-flat.ensures.ascii ∙ sym c.after_blanks.ensures.ascii ∙ ap are_ascii none))

pub returns-then-is_empty-clause-value : goal.returns-then-is_empty-clause-value
returns-then-is_empty-clause-value c =
    let none : c.after_blanks.result.now ≡ [] = nil_from_length c.after_blanks.result.now (eqb-true _ 0 (sym c.is_empty.ensures ∙ c.if-is_empty.true)) in
    flat_read (listed c.in_ok-flat.flat.names) c.args.line.now c.in_ok-flat.rest.now c.after_blanks.result.now (flat_members c.in_ok-flat.flat) c.in_ok-flat.ensures.sized c.in_ok-flat.ensures.lexemes c.after_blanks.ensures.lexemes none
