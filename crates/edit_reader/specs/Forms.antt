-- The forms of a line.
use Rattle.std.specs.Prelude.{ℕ, nat_eq, List, [], ◌∷◌, map, drop, take, Option, Some, None, slice_get, if◌then◌else◌}
use Rattle.std.specs.Cmp.Lexicographic.{pointwise}
use Rattle.std.specs.Option.{option_and_then, option_map_or}
use Rattle.itpg_base.specs.Words.{Word}
use Rattle.itpg_base.specs.declared.label_set.TheConstants.{MAX_LABELS}
use Rattle.itpg_edit.specs.declared.edit.Edit.{Edit}
use Rattle.script_lex.specs.Lexemes.{Lexeme, AWord, ANumber, AQuote}
use Rattle.script_lex.specs.Lines.{Placed}
use Rattle.script_lex.specs.Numbers.{number_value}
use Rattle.edit_reader.specs.declared.command.Command.{Command}
use Rattle.edit_reader.specs.declared.line.Wanted.TheVariants.{First, Last, Count}
use Rattle.edit_reader.specs.Readings.{Reading, Changes, Asks, Wants, Watches, Shows, Unwatches, Ticks, Opens, Closes, AsksIn, Follows, Nears, Unfollows}
use Rattle.edit_reader.specs.Commands.{command_word, command_at}
use Rattle.edit_reader.specs.Labels.{listed, set_of}

-- a node or an edge of these labels, with the tokens behind the labels
abbrev pub node_form : Word → List Word → List Lexeme → Option Reading
node_form id labels [] = Some (Changes (Edit.AddNode id (set_of labels)))
node_form id labels _ = None

abbrev pub edge_form : Word → List Word → List Lexeme → Option Reading
edge_form id labels (AWord source ∷ AWord target ∷ []) = Some (Changes (Edit.AddEdge id (set_of labels) source target))
edge_form id labels _ = None

-- the answer to a query text on a pin's graph, if the word behind the pin's name is `ask`
abbrev pub in_form : Word → Word → List ℕ → Option Reading
in_form name word text = if pointwise nat_eq (command_word Command.Ask) word then Some (AsksIn name text) else None

-- what stands behind each command word, token by token, and what the line then asks for; no other tokens are a form.
-- `text n` is the text of the line behind the token with the number n, where the command word has the number 0
abbrev pub form : (ℕ → List ℕ) → Command → List Lexeme → Option Reading
form text Command.Graph (AWord name ∷ ANumber lo ∷ ANumber hi ∷ []) = Some (Changes (Edit.Begin name (number_value lo) (number_value hi)))
form text Command.Extend (ANumber lo ∷ ANumber hi ∷ []) = Some (Changes (Edit.Extend (number_value lo) (number_value hi)))
form text Command.Node (AWord id ∷ rest) = option_and_then (λ l. node_form id l.words l.rest) (listed MAX_LABELS rest)
form text Command.Edge (AWord id ∷ rest) = option_and_then (λ l. edge_form id l.words l.rest) (listed MAX_LABELS rest)
form text Command.Live (AWord id ∷ ANumber from ∷ ANumber to ∷ []) = Some (Changes (Edit.Live id (number_value from) (number_value to)))
form text Command.Gone (AWord id ∷ ANumber from ∷ ANumber to ∷ []) = Some (Changes (Edit.Gone id (number_value from) (number_value to)))
form text Command.Set (AWord id ∷ AWord prop ∷ AQuote value ∷ ANumber from ∷ ANumber to ∷ []) =
    Some (Changes (Edit.Put id prop value (number_value from) (number_value to)))
form text Command.Unset (AWord id ∷ AWord prop ∷ ANumber from ∷ ANumber to ∷ []) = Some (Changes (Edit.Clear id prop (number_value from) (number_value to)))
form text Command.Drop (AWord id ∷ []) = Some (Changes (Edit.Remove id))
form text Command.Ask _ = Some (Asks (text 0))
form text Command.First _ = Some (Wants First (text 0))
form text Command.Last _ = Some (Wants Last (text 0))
form text Command.Count _ = Some (Wants Count (text 0))
form text Command.Watch (AWord name ∷ _) = Some (Watches name (text 1))
form text Command.Show (AWord name ∷ []) = Some (Shows name)
form text Command.Unwatch (AWord name ∷ []) = Some (Unwatches name)
form text Command.Tick [] = Some Ticks
form text Command.Open (AWord name ∷ []) = Some (Opens name)
form text Command.Close (AWord name ∷ []) = Some (Closes name)
form text Command.In (AWord name ∷ AWord word ∷ _) = in_form name word (text 2)
form text Command.Follow (AWord name ∷ _) = Some (Follows name (text 1))
form text Command.Near (AWord name ∷ AWord id ∷ []) = Some (Nears name id)
form text Command.Unfollow (AWord name ∷ []) = Some (Unfollows name)
form text _ _ = None

-- which tokens those are, without their places
abbrev pub lexemes : List Placed → List Lexeme
lexemes tokens = map (λ t. t.what) tokens

-- the bytes of a line behind a token
abbrev pub bytes_behind : List ℕ → Option Placed → List ℕ
bytes_behind line (Some t) = drop t.to line
bytes_behind line None = []

-- what a line of these tokens asks for, where they are a form: a command word and what stands behind it
abbrev pub form_of : List ℕ → List Placed → Option Reading
form_of line [] = None
form_of line (t ∷ ts) = option_and_then (λ command. form (λ n. bytes_behind line (slice_get (t ∷ ts) n)) command (lexemes ts)) (command_at t.what)

-- those of the tokens behind a command word that are no part of a query text
abbrev pub before_query : Command → List Lexeme → List Lexeme
before_query Command.Ask parts = []
before_query Command.First parts = []
before_query Command.Last parts = []
before_query Command.Count parts = []
before_query Command.Watch parts = take 1 parts
before_query Command.In parts = take 2 parts
before_query Command.Follow parts = take 1 parts
before_query _ parts = parts

-- the tokens of a line behind its command word, but without those of a query text
abbrev pub parts_of : List Placed → List Lexeme
parts_of [] = []
parts_of (t ∷ ts) = option_map_or (λ command. before_query command (lexemes ts)) (command_at t.what) []
