-- The names that a line gives are words.
use Rattle.std.proofs.Common.{◌≡◌, inl, inr, ℕ, List, [], ◌∷◌, Option, Some, None, Ok, sym, subst}
use Rattle.std.specs.Prelude.{IsTrue, slice_get}
use Rattle.std.specs.Option.{option_and_then}
use Rattle.itpg_base.specs.declared.text_code.TextCode.{TextCode}
use Rattle.script_lex.specs.Lexemes.{Lexeme, AWord, ANumber, AQuote, AMark}
use Rattle.script_lex.specs.Lines.{Placed, AreTokens}
use Rattle.script_lex.specs.Table.{first_token}
use Rattle.edit_reader.specs.declared.command.Command.{Command}
use Rattle.edit_reader.specs.Readings.{Reading}
use Rattle.edit_reader.specs.Commands.{command_at}
use Rattle.edit_reader.specs.Forms.{form, form_of, lexemes, bytes_behind}
use Rattle.edit_reader.specs.Labels.{listed}
use Rattle.edit_reader.specs.Lines.{ReadsAs, TakenAs}
use Rattle.edit_reader.specs.Names.{is_word, AsksForWords}
use Rattle.edit_reader.proofs.LabelForms.{node_words, edge_words}
use Rattle.edit_reader.proofs.PinForms.{is_in}
use Rattle.edit_reader.proofs.WordTokens.{first_word}

-- each word among the tokens is one
abbrev AreWords : List Lexeme → Type 0
AreWords [] = Unit {0}
AreWords (AWord w ∷ rest) = IsTrue (is_word w) × AreWords rest
AreWords (ANumber n ∷ rest) = AreWords rest
AreWords (AQuote q ∷ rest) = AreWords rest
AreWords (AMark m ∷ rest) = AreWords rest

one_word : (bytes : List ℕ) (what : Lexeme) (rest : List Lexeme) → first_token bytes ≡ Some what → AreWords rest → AreWords (what ∷ rest)
one_word bytes (AWord w) rest e words = (first_word bytes w e, words)
one_word bytes (ANumber n) rest e words = words
one_word bytes (AQuote q) rest e words = words
one_word bytes (AMark m) rest e words = words

are_words : (line : List ℕ) (at : ℕ) (tokens : List Placed) (end : Option TextCode) → AreTokens line at tokens end → AreWords (lexemes tokens)
are_words line at [] end are = tt
are_words line at (t ∷ ts) end are = one_word _ t.what (lexemes ts) are.0.what (are_words line t.to ts end are.1)

behind_first : (what : Lexeme) (rest : List Lexeme) → AreWords (what ∷ rest) → AreWords rest
behind_first (AWord w) rest words = words.1
behind_first (ANumber n) rest words = words
behind_first (AQuote q) rest words = words
behind_first (AMark m) rest words = words

same_words : {a b : Reading} → Some a ≡ Some b → AsksForWords a → AsksForWords b
same_words {a = a} {b = b} e words = let same : a ≡ b = cc in subst AsksForWords same words

form_words : (text : ℕ → List ℕ) (command : Command) (parts : List Lexeme) (reading : Reading) → form text command parts ≡ Some reading → AreWords parts → AsksForWords reading
form_words text Command.Graph (AWord name ∷ ANumber a ∷ ANumber b ∷ []) reading e words = same_words e words.0
form_words text Command.Extend (ANumber a ∷ ANumber b ∷ []) reading e words = same_words e tt
form_words text Command.Node (AWord id ∷ rest) reading e words = node_words id (listed 8 rest) reading e words.0
form_words text Command.Edge (AWord id ∷ rest) reading e words = edge_words id (listed 8 rest) reading e words.0
form_words text Command.Live (AWord id ∷ ANumber a ∷ ANumber b ∷ []) reading e words = same_words e tt
form_words text Command.Gone (AWord id ∷ ANumber a ∷ ANumber b ∷ []) reading e words = same_words e tt
form_words text Command.Set (AWord id ∷ AWord prop ∷ AQuote value ∷ ANumber a ∷ ANumber b ∷ []) reading e words = same_words e tt
form_words text Command.Unset (AWord id ∷ AWord prop ∷ ANumber a ∷ ANumber b ∷ []) reading e words = same_words e tt
form_words text Command.Drop (AWord id ∷ []) reading e words = same_words e tt
form_words text Command.Ask parts reading e words = same_words e tt
form_words text Command.First parts reading e words = same_words e tt
form_words text Command.Last parts reading e words = same_words e tt
form_words text Command.Count parts reading e words = same_words e tt
form_words text Command.Watch (AWord name ∷ rest) reading e words = same_words e words.0
form_words text Command.Show (AWord name ∷ []) reading e words = same_words e tt
form_words text Command.Unwatch (AWord name ∷ []) reading e words = same_words e tt
form_words text Command.Tick [] reading e words = same_words e tt
form_words text Command.Open (AWord name ∷ []) reading e words = same_words e words.0
form_words text Command.Close (AWord name ∷ []) reading e words = same_words e tt
form_words text Command.In (AWord name ∷ AWord word ∷ rest) reading e words = subst AsksForWords (sym (is_in name word (text 2) reading e)) tt
form_words text Command.Follow (AWord name ∷ rest) reading e words = same_words e words.0
form_words text Command.Near (AWord name ∷ AWord id ∷ []) reading e words = same_words e tt
form_words text Command.Unfollow (AWord name ∷ []) reading e words = same_words e tt
form_words text _ _ reading e words = absurd (let never : ⊥ = cc in never)

tokens_words : (line : List ℕ) (tokens : List Placed) (reading : Reading) → form_of line tokens ≡ Some reading → AreWords (lexemes tokens) → AsksForWords reading
tokens_words line [] reading e words = absurd (let never : ⊥ = cc in never)
tokens_words line (t ∷ ts) reading e words = by_command (command_at t.what) e
  where
    by_command : (o : Option Command) → option_and_then (λ command. form (λ n. bytes_behind line (slice_get (t ∷ ts) n)) command (lexemes ts)) o ≡ Some reading → AsksForWords reading
    by_command (Some command) is = form_words (λ n. bytes_behind line (slice_get (t ∷ ts) n)) command (lexemes ts) reading is (behind_first t.what (lexemes ts) words)
    by_command None is = absurd (let never : ⊥ = cc in never)

-- the names that a line gives are words
pub taken_words : (line : List ℕ) (reading : Reading) → TakenAs line (Ok reading) → AsksForWords reading
taken_words line reading taken = by_reading taken.1
  where
    by_reading : ReadsAs line reading → AsksForWords reading
    by_reading (inl silent) = subst AsksForWords (sym silent.1) tt
    by_reading (inr (loud, (tokens, (end, (are, is))))) = tokens_words line tokens reading is (are_words line 0 tokens end are)
