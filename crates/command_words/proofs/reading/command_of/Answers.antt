use Rattle.std.proofs.Common.{rules, ap, ap₂, codes, true, ◌≡◌, ◌∙◌}
use Rattle.clap.specs.Words.{App, app_of, rule_of, with_rule, new_app}
use Rattle.clap.specs.Simple.{app_of_fields}
use Rattle.command_words.specs.Sentence.{option_rule, flag_rule, with_options}
use Rattle.command_words.proofs.reading.command_of.Goals as goal

pub returns : goal.returns
returns c =
    let rows_is : rule_of c.action-max_rows.result ≡ option_rule (codes "max-rows") = search rules in
    let trial_is : rule_of c.action-trial.result ≡ option_rule (codes "trial") = search rules in
    let json_is : rule_of c.action-json.result ≡ flag_rule (codes "json") = search rules in
    let two : app_of c.in_ok-arg-2.field-0 ≡ with_rule (with_rule (new_app (codes "itpg")) (option_rule (codes "max-rows"))) (option_rule (codes "trial")) =
    c.in_ok-arg-2.ensures.shape (search rules) ∙ ap₂ with_rule (c.in_ok-arg.ensures.shape (search rules) ∙ ap₂ with_rule c.new-4.ensures.app rows_is) trial_is in
    let named_is : app_of c.in_ok-named.named ≡ with_options = c.in_ok-named.ensures.shape (search rules) ∙ ap₂ with_rule two json_is in
    ap app_of_fields c.no_binary_name.ensures ∙ ap (λ (a : App). record a { top = record (a.top) { no_binary_name = true } }) named_is
