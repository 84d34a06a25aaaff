-- The tokens of a line taken one by one: no public clause names what stands here.
use Rattle.std.specs.Prelude.{ℤ, ℕ, nat_eq, nat_le, Bool, List, [], ◌∷◌, length, Result, Ok, Err, if◌then◌else◌}
use Rattle.std.specs.Str.Parse.{digits_value}
use Rattle.std.specs.Cmp.Lexicographic.{pointwise}
use Rattle.itpg_base.specs.Words.{Word}
use Rattle.itpg_base.specs.declared.text_code.TextCode.{TextCode}
use Rattle.std.specs.Option.{option_map_or}
use Rattle.itpg_base.specs.declared.label_set.TheConstants.{MAX_LABELS}
use Rattle.edit_reader.specs.Labels.{listed, set_of}
use Rattle.itpg_base.specs.declared.name.TheConstants.{MAX_NAME}
use Rattle.script_lex.specs.declared.numbers.TheConstants.{MAX_NUMBER}
use Rattle.itpg_edit.specs.declared.edit.Edit.{Edit}
use Rattle.script_lex.specs.Lexemes.{Lexeme, AWord, ANumber, AQuote}
use Rattle.script_lex.specs.Numbers.{digits_of, number_value}
use Rattle.edit_reader.specs.declared.command.Command.{Command}
use Rattle.edit_reader.specs.Commands.{command_word}
use Rattle.edit_reader.specs.Readings.{Reading, Changes, Watches, Shows, Unwatches, Ticks, Opens, Closes, AsksIn, Follows, Nears, Unfollows}

-- what a line asks for, or its fault
abbrev pub Told : Type 0
Told = Result Reading TextCode

-- going on with the word that comes first, and what stands behind it
abbrev pub word_then : List Lexeme → (Word → List Lexeme → Told) → Told
word_then (AWord word ∷ rest) go_on = go_on word rest
word_then _ go_on = Err TextCode.Text

-- with the number
abbrev pub number_then : List Lexeme → (List ℕ → List Lexeme → Told) → Told
number_then (ANumber number ∷ rest) go_on = go_on number rest
number_then _ go_on = Err TextCode.Text

-- with the quoted text
abbrev pub quoted_then : List Lexeme → (Word → List Lexeme → Told) → Told
quoted_then (AQuote text ∷ rest) go_on = go_on text rest
quoted_then _ go_on = Err TextCode.Text

-- where nothing is left
abbrev pub end_then : List Lexeme → Told → Told
end_then [] go_on = go_on
end_then _ go_on = Err TextCode.Text

-- the digits write no number above the greatest
abbrev pub is_near : List ℕ → Bool
is_near number = nat_le (digits_value 10 (digits_of number)) MAX_NUMBER

-- with the moment that a number writes
abbrev pub moment_then : List ℕ → (ℤ → Told) → Told
moment_then number go_on = if is_near number then go_on (number_value number) else Err TextCode.Number

-- with a text that is short enough for a name
abbrev pub name_then : Word → (Word → Told) → Told
name_then text go_on = if nat_le (length text) MAX_NAME then go_on text else Err TextCode.Name

-- two numbers, and nothing behind them
abbrev pub span_then : List Lexeme → (ℤ → ℤ → Told) → Told
span_then parts go_on =
    number_then parts (λ from behind. number_then behind (λ to rest. end_then rest (moment_then from (λ a. moment_then to (λ b. go_on a b)))))

-- a word and two numbers
abbrev pub name_and_span_then : List Lexeme → (Word → ℤ → ℤ → Told) → Told
name_and_span_then parts go_on = word_then parts (λ id behind. span_then behind (λ from to. name_then id (λ name. go_on name from to)))

-- a word alone
abbrev pub only_name_then : List Lexeme → (Word → Told) → Told
only_name_then parts go_on = word_then parts (λ id behind. end_then behind (name_then id go_on))

-- a list of labels
abbrev pub labels_then : List Lexeme → (List Word → List Lexeme → Told) → Told
labels_then parts go_on = option_map_or (λ l. go_on l.words l.rest) (listed MAX_LABELS parts) (Err TextCode.Text)

-- texts that are short enough for names
abbrev pub names_then : List Word → Told → Told
names_then [] go_on = go_on
names_then (word ∷ rest) go_on = name_then word (λ name. names_then rest go_on)

-- the names of a node or an edge
abbrev pub node_names_then : Word → List Word → Told
node_names_then id words = name_then id (λ a. names_then words (Ok (Changes (Edit.AddNode a (set_of words)))))

abbrev pub edge_names_then : Word → List Word → Word → Word → Told
edge_names_then id words source target =
    name_then id (λ a. names_then words (name_then source (λ s. name_then target (λ t. Ok (Changes (Edit.AddEdge a (set_of words) s t))))))

-- the forms of a line, behind their command words
abbrev pub begin_told : List Lexeme → Told
begin_told parts = name_and_span_then parts (λ name lo hi. Ok (Changes (Edit.Begin name lo hi)))

abbrev pub extend_told : List Lexeme → Told
extend_told parts = span_then parts (λ lo hi. Ok (Changes (Edit.Extend lo hi)))

abbrev pub node_told : List Lexeme → Told
node_told parts = word_then parts (λ id behind. labels_then behind (λ words rest. end_then rest (node_names_then id words)))

abbrev pub edge_told : List Lexeme → Told
edge_told parts =
    word_then parts (λ id p. labels_then p (λ words q. word_then q (λ source r. word_then r (λ target rest. end_then rest (edge_names_then id words source target)))))

abbrev pub live_told : List Lexeme → Told
live_told parts = name_and_span_then parts (λ id from to. Ok (Changes (Edit.Live id from to)))

abbrev pub gone_told : List Lexeme → Told
gone_told parts = name_and_span_then parts (λ id from to. Ok (Changes (Edit.Gone id from to)))

abbrev pub put_told : List Lexeme → Told
put_told parts =
    word_then parts (λ id p. word_then p (λ prop q. quoted_then q (λ value r. span_then r (λ from to. name_then id (λ a. name_then prop (λ b. name_then value (λ v. Ok (Changes (Edit.Put a b v from to)))))))))

abbrev pub clear_told : List Lexeme → Told
clear_told parts =
    word_then parts (λ id p. word_then p (λ prop q. span_then q (λ from to. name_then id (λ a. name_then prop (λ b. Ok (Changes (Edit.Clear a b from to)))))))

abbrev pub remove_told : List Lexeme → Told
remove_told parts = only_name_then parts (λ id. Ok (Changes (Edit.Remove id)))

abbrev pub watch_told : List ℕ → List Lexeme → Told
watch_told text parts = word_then parts (λ word rest. name_then word (λ name. Ok (Watches name text)))

abbrev pub show_told : List Lexeme → Told
show_told parts = only_name_then parts (λ name. Ok (Shows name))

abbrev pub unwatch_told : List Lexeme → Told
unwatch_told parts = only_name_then parts (λ name. Ok (Unwatches name))

abbrev pub tick_told : List Lexeme → Told
tick_told parts = end_then parts (Ok Ticks)

abbrev pub open_told : List Lexeme → Told
open_told parts = only_name_then parts (λ name. Ok (Opens name))

abbrev pub close_told : List Lexeme → Told
close_told parts = only_name_then parts (λ name. Ok (Closes name))

-- going on where the word is `ask`
abbrev pub ask_then : Word → Told → Told
ask_then word go_on = if pointwise nat_eq (command_word Command.Ask) word then go_on else Err TextCode.Text

abbrev pub in_told : List ℕ → List Lexeme → Told
in_told text parts = word_then parts (λ word behind. word_then behind (λ command rest. ask_then command (name_then word (λ name. Ok (AsksIn name text)))))

abbrev pub follow_told : List ℕ → List Lexeme → Told
follow_told text parts = word_then parts (λ word rest. name_then word (λ name. Ok (Follows name text)))

abbrev pub near_told : List Lexeme → Told
near_told parts = word_then parts (λ follow behind. word_then behind (λ id rest. end_then rest (name_then follow (λ name. name_then id (λ object. Ok (Nears name object))))))

abbrev pub unfollow_told : List Lexeme → Told
unfollow_told parts = only_name_then parts (λ name. Ok (Unfollows name))
