use Rattle.std.proofs.Common.{◌≡◌, sym, subst, ◌∙◌}
use Rattle.edit_reader.specs.declared.command.Command.{Command}
use Rattle.edit_reader.specs.Answers.{written}
use Rattle.edit_reader.specs.Forms.{form, lexemes, before_query}
use Rattle.edit_reader.specs.Telling.{form_told}
use Rattle.edit_reader.proofs.LabelForms.{node_is, edge_is}
use Rattle.edit_reader.proofs.reading.write_edit.Goals as goal

pub returns-in-Node-clause-told : goal.returns-in-Node-clause-told
returns-in-Node-clause-told c = λ tokens are text.
    subst (λ (command : Command). written c.node.result c.node.new.room ≡ form_told (form text command (lexemes tokens)) (before_query command (lexemes tokens))) (sym c.in-Node.is) (c.node.ensures.told tokens are ∙ node_is text (lexemes tokens))

pub returns-in-Edge-clause-told : goal.returns-in-Edge-clause-told
returns-in-Edge-clause-told c = λ tokens are text.
    subst (λ (command : Command). written c.edge.result c.edge.new.room ≡ form_told (form text command (lexemes tokens)) (before_query command (lexemes tokens))) (sym c.in-Edge.is) (c.edge.ensures.told tokens are ∙ edge_is text (lexemes tokens))
