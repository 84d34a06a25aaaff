-- What a run has taken and written, at each status.
use Rattle.std.specs.Prelude.{◌≡◌, ℕ, ◌≤◌, ◌<◌, List, [], ◌++◌, length, take, Bool, true, false, None, Some, IfSome}
use Rattle.std.specs.declared.option.Option.{Option}
use Rattle.std.specs.Io.KnownBytes.{Appends, Consumes, IsAtEnd}
use Rattle.itpg_base.specs.Outside.{AppendsSome}
use Rattle.itpg_base.specs.declared.outside.Source.{Ghosts as SourceGhosts}
use Rattle.itpg_base.specs.declared.outside.Sink.{Ghosts as SinkGhosts}
use Rattle.command_words.specs.OptionsOf.{AreOptionsOf}
use Rattle.command_words.specs.declared.options.Options.{Options}
use Rattle.row_printer.specs.declared.form.Form.{Form}
use Rattle.itpg_session.specs.Machine.{opening}
use Rattle.itpg_run.specs.Lines.{lines, whole}
use Rattle.itpg_run.specs.Out.{Mode, Output, Runs, IsOut}
use Rattle.command_words.specs.declared.status.Status.{Status}
use Rattle.command_words.specs.declared.status.Status.TheVariants.{Done, DoneRefused, Usage, ReadFault, WriteFault, Memory, TooLong}

-- how many bytes a script may have
abbrev pub longest : ℕ
longest = 268435456

-- the lines are of JSON
abbrev pub is_json : Form → Bool
is_json Form.Plain = false
is_json Form.Json = true

-- the words, each as its bytes, ask for a script to be run so
abbrev pub AskForScript : List (List ℕ) → Mode → Type 0
AskForScript words mode = AreOptionsOf words (record { limits = mode.limit; trial = None; json = is_json mode.form })

-- the words ask for the trial of this number, with this limit of rows; whether they ask for lines of JSON has no part in it
abbrev pub AskForTrial : List (List ℕ) → ℕ → ℕ → Type 0
AskForTrial words limit number = (json : Bool) × AreOptionsOf words (record { limits = limit; trial = Some number; json = json })

-- the words ask for something
abbrev pub AskForSome : List (List ℕ) → Type 0
AskForSome words = (o : Options) × AreOptionsOf words o

-- nothing was read and nothing was written
pub record IsIdle (before left held now : Option (List ℕ)) : Type 0 where
  pub taken : Consumes before left []
  pub written : Appends held now []

-- the output over these bytes was written
pub record WritesOut (mode : Mode) (held now : Option (List ℕ)) (bytes : List ℕ) : Type 0 where
  pub output : Output
  pub out : IsOut mode bytes output
  pub written : Appends held now output.text

-- the same, and whether a reply in it fails
pub record WritesAs (mode : Mode) (held now : Option (List ℕ)) (bytes : List ℕ) (failing : Bool) : Type 0 where
  pub output : Output
  pub out : IsOut mode bytes output
  pub written : Appends held now output.text
  pub fails : output.failing ≡ failing

-- the replies to some first lines of these bytes were written, each whole
pub record WritesLines (mode : Mode) (held now : Option (List ℕ)) (bytes : List ℕ) : Type 0 where
  pub front : List ℕ
  pub rest : List ℕ
  pub split : front ++ rest ≡ bytes
  pub writes : WritesOut mode held now (whole front)

-- a front part of the replies to some first lines was written
pub record WritesWithin (mode : Mode) (held now : Option (List ℕ)) (bytes : List ℕ) : Type 0 where
  pub front : List (List ℕ)
  pub rest : List (List ℕ)
  pub split : front ++ rest ≡ lines bytes
  pub output : Output
  pub runs : Runs mode opening 1 front output
  pub some : AppendsSome held now output.text

-- all bytes were taken, and the whole output was written
pub record WritesAll (mode : Mode) (left : Option (List ℕ)) (held now : Option (List ℕ)) (bytes : List ℕ) (failing : Bool) : Type 0 where
  pub fits : length bytes ≤ longest
  pub ended : IsAtEnd left
  pub writes : WritesAs mode held now bytes failing

-- what was written at this status, of the bytes that were taken
abbrev pub Writes : Status → Mode → Option (List ℕ) → Option (List ℕ) → Option (List ℕ) → Option (List ℕ) → List ℕ → Type 0
Writes Done mode before left held now bytes = WritesAll mode left held now bytes false
Writes DoneRefused mode before left held now bytes = WritesAll mode left held now bytes true
Writes Usage mode before left held now bytes = ⊥
Writes ReadFault mode before left held now bytes = (length bytes ≤ longest) × WritesOut mode held now (whole bytes)
Writes WriteFault mode before left held now bytes = IfSome before (λ all. WritesWithin mode held now all)
Writes Memory mode before left held now bytes = WritesLines mode held now bytes
Writes TooLong mode before left held now bytes = (longest < length bytes) × WritesOut mode held now (whole (take longest bytes))

-- a run took some bytes, and wrote what its status says
pub record Served (status : Status) (mode : Mode) (before left held now : Option (List ℕ)) : Type 0 where
  pub bytes : List ℕ
  pub taken : Consumes before left bytes
  pub writes : Writes status mode before left held now bytes

-- whatever the output over all is, a front part of it was written
abbrev pub BeginsEach : Mode → Option (List ℕ) → Option (List ℕ) → Option (List ℕ) → Type 0
BeginsEach mode before held now = IfSome before (λ all. (t : Output) → IsOut mode all t → AppendsSome held now t.text)

-- all was answered, or memory ran out
abbrev pub EndsWell : Status → Type 0
EndsWell Done = Unit {0}
EndsWell DoneRefused = Unit {0}
EndsWell Memory = Unit {0}
EndsWell Usage = ⊥
EndsWell ReadFault = ⊥
EndsWell WriteFault = ⊥
EndsWell TooLong = ⊥

-- the same of a source and a sink, each named by the ghost value of its type: both before the run, and both after it
module _ {S K : Type 0} (source : SourceGhosts S) (sink : SinkGhosts K) (before : S) (held : K) (left : S) (now : K) where
  abbrev pub Serves : Status → Mode → Type 0
  Serves status mode = Served status mode (source.left before) (source.left left) (sink.held held) (sink.held now)

  abbrev pub Idles : Type 0
  Idles = IsIdle (source.left before) (source.left left) (sink.held held) (sink.held now)

-- a front part of the output over all that the source had was written to the sink
abbrev pub BeginsTo : {S K : Type 0} (source : SourceGhosts S) (sink : SinkGhosts K) (before : S) (held now : K) (mode : Mode) → Type 0
BeginsTo source sink before held now mode = BeginsEach mode (source.left before) (sink.held held) (sink.held now)
