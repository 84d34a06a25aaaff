-- The command: two options that each take one value, and one flag that takes none.
use Rattle.std.specs.Prelude.{◌≡◌, Option, Some, [], List, true, codes, Bool, false, nat_eq}
use Rattle.std.specs.Option.{option_map_or}
use Rattle.std.specs.Cmp.Lexicographic.{pointwise}
use Rattle.clap.specs.Words.{App, Rule, Text, new_app, new_rule, with_rule, fault_of, first_of, matches_of}
use Rattle.clap.specs.declared.builder.ArgAction.TheVariants.{Set, SetTrue}

-- an option under a long name, which takes one value and stands at most once
abbrev pub option_rule : Text → Rule
option_rule name = record (new_rule name) { long = Some name; action = Some Set }

-- a flag under a long name, which takes no value and stands at most once
abbrev pub flag_rule : Text → Rule
flag_rule name = record (new_rule name) { long = Some name; action = Some SetTrue }

abbrev pub with_options : App
with_options = with_rule (with_rule (with_rule (new_app (codes "itpg")) (option_rule (codes "max-rows"))) (option_rule (codes "trial"))) (flag_rule (codes "json"))

-- the command, whose words have no program's name before them
abbrev pub command : App
command = record with_options { top = record (with_options.top) { no_binary_name = true } }

-- the words fit the command: clap finds no fault with them
unfoldable pub IsSentence : List Text → Type 0
IsSentence words = fault_of command words ≡ []

-- the value that the words give an option
unfoldable pub value_in : Text → List Text → Option Text
value_in name words = first_of name (matches_of command words)

-- the value of a flag is `true` if the words give it, and else `false`
abbrev pub says_true : Option Text → Bool
says_true value = option_map_or (pointwise nat_eq (codes "true")) value false

-- the words give the flag
unfoldable pub has_flag : Text → List Text → Bool
has_flag name words = says_true (value_in name words)

-- the words fit the command, and this is whether they ask for JSON lines
abbrev pub FitsWith : List Text → Bool → Type 0
FitsWith words json = IsSentence words × (has_flag (codes "json") words ≡ json)
