use Rattle.std.proofs.Common.{◌≡◌, refl, ℕ, List, Some, rules, tests}
use Rattle.std.specs.Prelude.{codes}
use Rattle.edit_reader.specs.Commands.{command_of}
use Rattle.edit_reader.specs.declared.command.Command.{Command}
use Rattle.edit_reader.proofs.command.Command.of.Goals as goal

-- the word of the command is told by itself
live_word : (word : List ℕ) → word ≡ codes "live" → Some Command.Live ≡ command_of word
unfolding command_of
live_word word e = rw e refl

set_word : (word : List ℕ) → word ≡ codes "set" → Some Command.Set ≡ command_of word
unfolding command_of
set_word word e = rw e refl

pub returns-then-eq : goal.returns-then-eq
returns-then-eq c = live_word _ (search (rules, tests))

pub returns-then-eq-2 : goal.returns-then-eq-2
returns-then-eq-2 c = set_word _ (search (rules, tests))
