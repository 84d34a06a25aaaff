use Rattle.edit_reader.proofs.WordTokens.{word_token, first_word}
use Rattle.edit_reader.proofs.laws.law_of_words.Goals as goal

pub returns : goal.returns
returns c = λ name. (word_token name, first_word name name)
