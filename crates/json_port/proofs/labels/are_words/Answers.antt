use Rattle.std.proofs.Common.{◌∙◌}
use Rattle.json_port.proofs.Listings.{tests_words}
use Rattle.json_port.proofs.labels.are_words.Goals as goal

pub returns-then-not-is_empty : goal.returns-then-not-is_empty
returns-then-not-is_empty c = c.are_all_words.ensures ∙ tests_words c.args.words.now c.is_empty.result c.is_empty.ensures c.if-not-is_empty.true
