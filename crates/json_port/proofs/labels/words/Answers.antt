use Rattle.std.proofs.Common.{map, ap, is_some, ◌∙◌}
use Rattle.json_port.specs.Calls.{words}
use Rattle.json_port.specs.Flats.{listed}
use Rattle.json_port.proofs.Listings.{words_same, words_none, words_some}
use Rattle.json_port.proofs.labels.words.Goals as goal

pub returns-then-are_words-clause-value : goal.returns-then-are_words-clause-value
returns-then-are_words-clause-value c = words_same (listed c.args.names.now) c.are_words.result (c.are_words.ensures ∙ ap (λ ns. is_some (words (map (λ w. w.now) ns))) c.as_slice.ensures) c.if-are_words.true

pub returns-then-are_words-clause-some : goal.returns-then-are_words-clause-some
returns-then-are_words-clause-some c = words_some (listed c.args.names.now) c.are_words.result (c.are_words.ensures ∙ ap (λ ns. is_some (words (map (λ w. w.now) ns))) c.as_slice.ensures) c.if-are_words.true

pub returns-else-are_words-clause-value : goal.returns-else-are_words-clause-value
returns-else-are_words-clause-value c = words_none (listed c.args.names.now) c.are_words.result (c.are_words.ensures ∙ ap (λ ns. is_some (words (map (λ w. w.now) ns))) c.as_slice.ensures) c.if-are_words.false
