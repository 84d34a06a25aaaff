-- What reading to the end leaves.
use Rattle.std.specs.Prelude.{◌≡◌, ℕ, ◌≤◌, List, [], length}
use Rattle.std.specs.declared.option.Option.{Option}
use Rattle.std.specs.Io.KnownBytes.{Consumes, IsAtEnd}
use Rattle.itpg_base.specs.declared.outside.Source.{Ghosts as SourceGhosts}
use Rattle.itpg_base.specs.declared.outside.Sink.{Ghosts as SinkGhosts}
use Rattle.itpg_run.specs.Out.{Mode}
use Rattle.itpg_run.specs.Served.{longest, Served}
use Rattle.itpg_run.specs.Fed.{Fed}
use Rattle.itpg_run.specs.declared.reader.Reader.{Reader}
use Rattle.itpg_run.specs.declared.reader.Stop.{Stop}
use Rattle.itpg_run.specs.declared.reader.Stop.TheVariants as stop
use Rattle.command_words.specs.declared.status.Status.{Status}
use Rattle.command_words.specs.declared.status.Status.TheVariants as status

-- the input was read to its end
pub record Pumped (mode : Mode) (before left start now : Option (List ℕ)) (r : Reader) : Type 0 where
  pub bytes : List ℕ
  pub taken : Consumes before left bytes
  pub fits : length bytes ≤ longest
  pub ended : IsAtEnd left
  pub fed : Fed mode start now r bytes

-- so many bytes were taken
pub record Pumping (mode : Mode) (before left start now : Option (List ℕ)) (r : Reader) (count : ℕ) : Type 0 where
  pub bytes : List ℕ
  pub taken : Consumes before left bytes
  pub counted : length bytes ≡ count
  pub fed : Fed mode start now r bytes

abbrev pub status_of : Stop → Status
status_of stop.Memory = status.Memory
status_of stop.Write = status.WriteFault
status_of stop.TooLong = status.TooLong

-- where the reader had been fed nothing: the input was read to its end
module _ {S K : Type 0} (source : SourceGhosts S) (sink : SinkGhosts K) (before : S) (held : K) (left : S) (now : K) (old : Reader) where
  abbrev pub PumpsAll : Reader → Type 0
  PumpsAll new = (mode : Mode) (start : Option (List ℕ)) → Fed mode start (sink.held held) old [] → Pumped mode (source.left before) (source.left left) start (sink.held now) new

  -- or the run ended with this status
  abbrev pub PumpsTo : Status → Type 0
  PumpsTo status = (mode : Mode) (start : Option (List ℕ)) → Fed mode start (sink.held held) old [] → Served status mode (source.left before) (source.left left) start (sink.held now)
