-- How runs end.
use Rattle.std.specs.Prelude.{ℕ, List, length, Some, ◌≡◌, ◌<◌}
use Rattle.std.specs.declared.option.Option.{Option}
use Rattle.command_words.specs.declared.status.Status.{Status}
use Rattle.command_words.specs.declared.status.Status.TheVariants.{Done, DoneRefused, Usage, ReadFault, WriteFault, Memory, TooLong}

-- a run that read its source to the end ends so
abbrev pub EndsLines : Status → Type 0
EndsLines Done = Unit {0}
EndsLines DoneRefused = Unit {0}
EndsLines WriteFault = Unit {0}
EndsLines Memory = Unit {0}
EndsLines Usage = ⊥
EndsLines ReadFault = ⊥
EndsLines TooLong = ⊥

-- a run that didn't ends so
abbrev pub StopsLines : Status → Type 0
StopsLines ReadFault = Unit {0}
StopsLines WriteFault = Unit {0}
StopsLines Memory = Unit {0}
StopsLines TooLong = Unit {0}
StopsLines Done = ⊥
StopsLines DoneRefused = ⊥
StopsLines Usage = ⊥

-- a run that found words that ask for a script ends so
abbrev pub EndsRun : Status → Type 0
EndsRun Usage = ⊥
EndsRun Done = Unit {0}
EndsRun DoneRefused = Unit {0}
EndsRun ReadFault = Unit {0}
EndsRun WriteFault = Unit {0}
EndsRun Memory = Unit {0}
EndsRun TooLong = Unit {0}

-- how many bytes a script may have
abbrev pub longest : ℕ
longest = 268435456

-- if the source tells its bytes, there are more than a script may have
abbrev pub IsTooLong : Option (List ℕ) → Type 0
IsTooLong before = (all : List ℕ) → before ≡ Some all → longest < length all
