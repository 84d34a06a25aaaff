-- Lists of labels: one to eight words parted by commas, and the set that they are.
use Rattle.std.specs.Prelude.{ℕ, suc, ◌≤◌, Bool, true, false, List, [], ◌∷◌, ◌++◌, length, Option, Some, None, option_map, if◌then◌else◌}
use Rattle.std.specs.Option.{option_map_or}
use Rattle.std.specs.Ordering.{nat_cmp}
use Rattle.std.specs.Cmp.Lexicographic.{slice_cmp}
use Rattle.std.specs.declared.cmp.Ordering.{Ordering}
use Rattle.std.specs.declared.cmp.Ordering.TheVariants.{Less, Equal, Greater}
use Rattle.itpg_base.specs.Words.{Word}
use Rattle.itpg_base.specs.declared.name.TheConstants.{MAX_NAME}
use Rattle.script_lex.specs.Lexemes.{Lexeme, AWord, AMark}
use Rattle.script_lex.specs.declared.mark.Mark.{Mark}

abbrev pub is_comma : Mark → Bool
is_comma Mark.Comma = true
is_comma _ = false

-- what stands behind a comma that comes first
abbrev pub behind_comma : List Lexeme → Option (List Lexeme)
behind_comma (AMark mark ∷ rest) = if is_comma mark then Some rest else None
behind_comma _ = None

-- words that were parted by commas, and the tokens behind them
pub record Listed : Type 0 where
  pub words : List Word
  pub rest : List Lexeme

-- the list with these words before its own
abbrev pub with_words : List Word → Listed → Listed
with_words words l = record { words = words ++ l.words; rest = l.rest }

-- the words parted by commas that come first, where they are at least one and at most so many
abbrev pub listed : ℕ → List Lexeme → Option Listed
listed (suc n) (AWord word ∷ rest) =
    option_map_or (λ more. option_map (with_words (word ∷ [])) (listed n more)) (behind_comma rest) (Some (record { words = word ∷ []; rest = rest }))
listed _ _ = None

-- the word before, at or behind the first of a rising list
abbrev pub placed : Ordering → Word → Word → List Word → List Word → List Word
placed Less word first rest behind = word ∷ first ∷ rest
placed Equal word first rest behind = first ∷ rest
placed Greater word first rest behind = first ∷ behind

-- the rising list with the word, which stands there once
abbrev pub with_word : Word → List Word → List Word
with_word word [] = word ∷ []
with_word word (first ∷ rest) = placed (slice_cmp nat_cmp word first) word first rest (with_word word rest)

-- the words by rising name, each once
abbrev pub set_of : List Word → List Word
set_of [] = []
set_of (word ∷ rest) = with_word word (set_of rest)

-- no word is longer than a name may be
abbrev pub AreShort : List Word → Type 0
AreShort [] = Unit {0}
AreShort (word ∷ rest) = (length word ≤ MAX_NAME) × AreShort rest
