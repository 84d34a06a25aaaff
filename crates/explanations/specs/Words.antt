-- What the words of the command line ask for.
use Rattle.std.specs.Prelude.{ℕ, Bool, List, None, false, codes, nat_eq}
use Rattle.std.specs.Cmp.Lexicographic.{pointwise}
use Rattle.command_words.specs.OptionsOf.{AreOptionsOf}

-- the word asks for help
abbrev pub is_help : List ℕ → Bool
is_help word = pointwise nat_eq word (codes "--help")

-- the words ask for a script to be explained with this limit of rows: as words of itpg they ask for it to be run so, in plain lines
abbrev pub AskForLimit : List (List ℕ) → ℕ → Type 0
AskForLimit words limit = AreOptionsOf words (record { limits = limit; trial = None; json = false })
