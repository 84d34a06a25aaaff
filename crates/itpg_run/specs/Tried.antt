-- What a trial has taken and written, at each status.
use Rattle.std.specs.Prelude.{ℕ, List, [], true, false}
use Rattle.std.specs.declared.option.Option.{Option}
use Rattle.std.specs.Io.KnownBytes.{Consumes}
use Rattle.itpg_base.specs.declared.outside.Source.{Ghosts as SourceGhosts}
use Rattle.itpg_base.specs.declared.outside.Sink.{Ghosts as SinkGhosts}
use Rattle.itpg_run.specs.Summary.{TellsAll, TellsWhole, TellsSome}
use Rattle.command_words.specs.declared.status.Status.{Status}
use Rattle.command_words.specs.declared.status.Status.TheVariants.{Done, DoneRefused, Usage, ReadFault, WriteFault, Memory, TooLong}

-- what was written of the summary at this status
abbrev pub WritesSummary : Status → ℕ → ℕ → Option (List ℕ) → Option (List ℕ) → Type 0
WritesSummary Done limit number held now = TellsAll limit number held now false
WritesSummary DoneRefused limit number held now = TellsAll limit number held now true
WritesSummary Usage limit number held now = ⊥
WritesSummary ReadFault limit number held now = ⊥
WritesSummary WriteFault limit number held now = TellsSome limit number held now
WritesSummary Memory limit number held now = TellsWhole limit number held now
WritesSummary TooLong limit number held now = ⊥

-- the same of a sink, named by the ghost value of its type: before the call, and after it
abbrev pub WritesSummaryTo : {K : Type 0} (sink : SinkGhosts K) (before now : K) (status : Status) (limit number : ℕ) → Type 0
WritesSummaryTo sink before now status limit number = WritesSummary status limit number (sink.held before) (sink.held now)

-- nothing was taken, and of the summary was written what the status says
pub record Tried (status : Status) (limit number : ℕ) (before left held now : Option (List ℕ)) : Type 0 where
  pub taken : Consumes before left []
  pub writes : WritesSummary status limit number held now

-- the same of a source and a sink, each named by the ghost value of its type: both before the run, and both after it
abbrev pub Tries : {S K : Type 0} (source : SourceGhosts S) (sink : SinkGhosts K) (before : S) (held : K) (left : S) (now : K) (status : Status) (limit number : ℕ) → Type 0
Tries source sink before held left now status limit number = Tried status limit number (source.left before) (source.left left) (sink.held held) (sink.held now)
