use Rattle.std.proofs.Common.{◌≡◌, ℕ, List, sym, ap, ◌∙◌, subst}
use Rattle.edit_reader.specs.declared.command.Command.{Command}
use Rattle.edit_reader.specs.Forms.{form, lexemes, before_query}
use Rattle.edit_reader.specs.Readings.{told}
use Rattle.edit_reader.specs.Steps.{in_told}
use Rattle.edit_reader.specs.Telling.{form_told}
use Rattle.edit_reader.proofs.PinForms.{in_is}
use Rattle.edit_reader.proofs.reading.read_command.Goals as goal

pub returns-in-In : goal.returns-in-In
returns-in-In c = λ tokens are text first second third.
    let query = ap (λ (t : List ℕ). in_told t (lexemes tokens)) (sym third) in
    subst (λ (command : Command). told c.ask_in.result ≡ form_told (form text command (lexemes tokens)) (before_query command (lexemes tokens))) (sym c.in-In.is) (c.ask_in.ensures tokens are ∙ query ∙ in_is text (lexemes tokens))
