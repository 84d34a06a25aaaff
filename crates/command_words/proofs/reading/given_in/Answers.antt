use Rattle.std.proofs.Common.{ap, codes, ◌≡◌, ◌∙◌}
use Rattle.clap.specs.Words.{found_of, first_of}
use Rattle.clap.proofs.WalkLemmas.{first_value-rows}
use Rattle.command_words.specs.declared.options.WordsFault.TheVariants.{Usage}
use Rattle.command_words.specs.Sentence.{says_true, has_flag}
use Rattle.command_words.proofs.Sentences.{takes_words, refuses_words, value_is}
use Rattle.command_words.proofs.reading.given_in.Goals as goal

pub returns-clause-fits : goal.returns-clause-fits
returns-clause-fits c = takes_words _ _ c.in-Ok.ensures c.in-Ok-try_get_matches_from.ensures.kinds

pub returns-clause-max_rows : goal.returns-clause-max_rows
returns-clause-max_rows c =
    let m = c.in-Ok-try_get_matches_from.matches in
    c.get_str.ensures ∙ value_is _ _ (codes "max-rows") _ c.in-Ok.ensures (λ plain. first_value-rows (found_of m) (codes "max-rows") ∙ ap (first_of (codes "max-rows")) (c.in-Ok-try_get_matches_from.ensures.matches plain).0)

pub returns-clause-trial : goal.returns-clause-trial
returns-clause-trial c =
    let m = c.in-Ok-try_get_matches_from.matches in
    c.get_str-2.ensures ∙ value_is _ _ (codes "trial") _ c.in-Ok.ensures (λ plain. first_value-rows (found_of m) (codes "trial") ∙ ap (first_of (codes "trial")) (c.in-Ok-try_get_matches_from.ensures.matches plain).0)

pub returns-clause-json : goal.returns-clause-json
unfolding has_flag
returns-clause-json c =
    let m = c.in-Ok-try_get_matches_from.matches in
    let is = c.get_str-3.ensures ∙ value_is _ _ (codes "json") _ c.in-Ok.ensures (λ plain. first_value-rows (found_of m) (codes "json") ∙ ap (first_of (codes "json")) (c.in-Ok-try_get_matches_from.ensures.matches plain).0) in
    c.is_true.ensures ∙ ap says_true is

pub returns-in-Err-try_get_matches_from-clause-usage : goal.returns-in-Err-try_get_matches_from-clause-usage
returns-in-Err-try_get_matches_from-clause-usage c = λ is sentence.
    let usage : c.cause.result ≡ Usage = cc in
    refuses_words _ _ c.in-Err-try_get_matches_from.error c.in-Ok.ensures c.in-Err-try_get_matches_from.ensures.kinds (c.cause.ensures usage) sentence
