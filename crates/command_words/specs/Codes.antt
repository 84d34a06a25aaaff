-- The exit status of each status.
use Rattle.std.specs.Prelude.{ℕ}
use Rattle.command_words.specs.declared.status.Status.{Status}
use Rattle.command_words.specs.declared.status.Status.TheVariants.{Done, DoneRefused, Usage, ReadFault, WriteFault, Memory, TooLong}

abbrev pub code_of : Status → ℕ
code_of Done = 0
code_of DoneRefused = 1
code_of Usage = 2
code_of ReadFault = 3
code_of WriteFault = 4
code_of Memory = 5
code_of TooLong = 6
