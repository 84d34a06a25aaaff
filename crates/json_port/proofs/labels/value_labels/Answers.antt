use Rattle.std.proofs.Common.{Some, rules, sym, ◌∙◌, ap, option_and_then}
use Rattle.json_port.specs.Parts.{names_in}
use Rattle.json_port.proofs.Listings.{all_named, not_all_named}
use Rattle.json_port.proofs.labels.value_labels.Goals as goal

pub returns-then-are_names-clause-value : goal.returns-then-are_names-clause-value
returns-then-are_names-clause-value c =
    ap Some c.names_in.ensures.names ∙ sym (all_named c.in_ok-items.items.now (search rules)) ∙ ap (option_and_then names_in) c.in_ok-items.ensures.value

pub returns-else-are_names-clause-value : goal.returns-else-are_names-clause-value
returns-else-are_names-clause-value c = sym (not_all_named c.in_ok-items.items.now (search rules)) ∙ ap (option_and_then names_in) c.in_ok-items.ensures.value
