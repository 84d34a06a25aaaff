-- The text of a hint: one line, what is so and then what to write instead.
use Rattle.std.specs.Prelude.{ℕ, List, ◌++◌, codes}
use Rattle.std.specs.Fmt.{decimal}
use Rattle.path_text.specs.Texts.{text_of}
use Rattle.answer_hints.specs.declared.hint.AnswerHint.{AnswerHint}
use Rattle.answer_hints.specs.declared.hint.AnswerHint.TheVariants.{AtAnyMoment, NeedsMore}
use Rattle.answer_hints.specs.Repeated.{Told}

abbrev pub at_any_moment_text : List ℕ
at_any_moment_text = codes "the path leads nowhere only because FWD and BWD ask that what they come to exists at the moment; F and B go along an edge at any moment; write F for FWD and B for BWD"

abbrev pub needs_more_text : ℕ → List ℕ
needs_more_text n = codes "some step to the answer has " ++ decimal n ++ codes " rows; write --max-rows " ++ decimal n

abbrev pub text_of_answer_hint : AnswerHint → List ℕ
text_of_answer_hint AtAnyMoment = at_any_moment_text
text_of_answer_hint (NeedsMore n) = needs_more_text n

abbrev pub text_of_told : Told → List ℕ
text_of_told t = text_of t.path ++ codes " adds nothing from " ++ decimal t.times ++ codes " times on; write " ++ text_of t.instead
