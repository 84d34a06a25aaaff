-- What a sink got, in words that name the sink once, by the ghost value of its type.
use Rattle.std.specs.Prelude.{ℕ, List, Result}
use Rattle.std.specs.Io.KnownBytes.{Appends, Keeps}
use Rattle.itpg_base.specs.Outside.{AppendsSome, HasCause, Rose}
use Rattle.itpg_base.specs.declared.outside.Sink.{Ghosts}

-- the sink got the whole text, behind what it held
abbrev pub Gets : {K : Type 0} (sink : Ghosts K) (old new : K) (text : List ℕ) → Type 0
Gets sink old new text = Appends (sink.held old) (sink.held new) text

-- it got a front part of the text
abbrev pub GetsSome : {K : Type 0} (sink : Ghosts K) (old new : K) (text : List ℕ) → Type 0
GetsSome sink old new text = AppendsSome (sink.held old) (sink.held new) text

-- it got nothing
abbrev pub GetsNothing : {K : Type 0} (sink : Ghosts K) (old new : K) → Type 0
GetsNothing sink old new = Keeps (sink.held old) (sink.held new)

-- it has failed in between
abbrev pub HasFailed : {K : Type 0} (sink : Ghosts K) (old new : K) → Type 0
HasFailed sink old new = Rose (sink.faults old) (sink.faults new)

-- a result says that the sink failed only where it has failed, and the count of its faults never falls
abbrev pub IsHonest : {K T E : Type 0} (sink : Ghosts K) (old new : K) (result : Result T E) → Type 0
IsHonest sink old new result = HasCause (sink.faults old) (sink.faults new) result
