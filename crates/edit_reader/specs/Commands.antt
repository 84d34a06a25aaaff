-- The twenty-three command words.
use Rattle.std.specs.Prelude.{ℕ, Bool, true, false, nat_eq, List, [], ◌∷◌, codes, Option, None}
use Rattle.std.specs.Cmp.Lexicographic.{pointwise}
use Rattle.std.specs.List.{find}
use Rattle.script_lex.specs.Lexemes.{Lexeme, AWord, ANumber, AQuote, AMark}
use Rattle.edit_reader.specs.declared.command.Command.{Command}

-- the word of each command, in lower case
abbrev pub command_word : Command → List ℕ
command_word Command.Graph = codes "graph"
command_word Command.Extend = codes "extend"
command_word Command.Node = codes "node"
command_word Command.Edge = codes "edge"
command_word Command.Live = codes "live"
command_word Command.Gone = codes "gone"
command_word Command.Set = codes "set"
command_word Command.Unset = codes "unset"
command_word Command.Drop = codes "drop"
command_word Command.Ask = codes "ask"
command_word Command.First = codes "first"
command_word Command.Last = codes "last"
command_word Command.Count = codes "count"
command_word Command.Watch = codes "watch"
command_word Command.Show = codes "show"
command_word Command.Unwatch = codes "unwatch"
command_word Command.Tick = codes "tick"
command_word Command.Open = codes "open"
command_word Command.Close = codes "close"
command_word Command.In = codes "in"
command_word Command.Follow = codes "follow"
command_word Command.Near = codes "near"
command_word Command.Unfollow = codes "unfollow"

-- the graph changes by what stands behind the command word
abbrev pub is_edit : Command → Bool
is_edit Command.Graph = true
is_edit Command.Extend = true
is_edit Command.Node = true
is_edit Command.Edge = true
is_edit Command.Live = true
is_edit Command.Gone = true
is_edit Command.Set = true
is_edit Command.Unset = true
is_edit Command.Drop = true
is_edit _ = false

-- all commands
abbrev pub commands : List Command
commands =
    Command.Live ∷ Command.Set ∷ Command.Node ∷ Command.Edge ∷ Command.Gone ∷ Command.Unset ∷ Command.Drop ∷ Command.Ask ∷ Command.Show ∷ Command.Tick ∷ Command.In ∷ Command.Near ∷ Command.Watch ∷ Command.Unwatch ∷ Command.Open ∷ Command.Close ∷ Command.Follow ∷ Command.Unfollow ∷ Command.First ∷ Command.Last ∷ Command.Count ∷ Command.Extend ∷ Command.Graph ∷ []

-- the command that has this word
unfoldable pub command_of : List ℕ → Option Command
command_of word = find (λ c. pointwise nat_eq (command_word c) word) commands

-- the command that a token is, where it is one of these words
abbrev pub command_at : Lexeme → Option Command
command_at (AWord word) = command_of word
command_at (ANumber number) = None
command_at (AQuote text) = None
command_at (AMark mark) = None
