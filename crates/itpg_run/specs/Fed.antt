-- What a reader was fed, and what was written by then.
use Rattle.std.specs.Prelude.{◌≡◌, ℕ, ◌+◌, List, [], ◌++◌, length, take, ◌<◌, ◌||◌, true, false}
use Rattle.std.specs.declared.option.Option.{Option}
use Rattle.std.specs.Io.KnownBytes.{Appends}
use Rattle.itpg_base.specs.Outside.{AppendsSome}
use Rattle.itpg_base.specs.declared.outside.Sink.{Ghosts as SinkGhosts}
use Rattle.itpg_session.specs.Lines.{LineIs}
use Rattle.itpg_session.specs.Machine.{Standing, Turn, opening, Replies}
use Rattle.itpg_session.specs.Steps.{Sees, StandsAs, Stepped, StepsWithin}
use Rattle.itpg_session.specs.declared.reply.Seen.{Seen}
use Rattle.itpg_run.specs.Out.{Mode, mode_at, Output, LineOut, Runs}
use Rattle.itpg_run.specs.Split.{NoEnd, NoEnds, joined}
use Rattle.itpg_run.specs.Served.{WritesLines, WritesOut, WritesAs, WritesWithin}
use Rattle.itpg_run.specs.Lines.{kept, whole}
use Rattle.itpg_run.specs.declared.reader.Reader.{Reader}
use Rattle.itpg_run.specs.declared.reader.Stop.{Stop}
use Rattle.itpg_run.specs.declared.reader.Stop.TheVariants as stop
use Rattle.command_words.specs.declared.status.Status.{Status}
use Rattle.command_words.specs.declared.status.Status.TheVariants.{Done, DoneRefused, Usage, ReadFault, WriteFault, Memory, TooLong}

-- how the reader runs its script
abbrev pub mode_of : Reader → Mode
mode_of r = mode_at r.form r.session.limit

-- a turn that the session may have on what is kept of the line
abbrev pub TurnsOn : Reader → Turn → Type 0
TurnsOn r = Replies r.session.limit r.session.machine (LineIs r.form r.line.items)

-- an output that each line may have of which the reader has the front that is kept
abbrev pub RepliesTo : Reader → Output → Type 0
RepliesTo r output = (line : List ℕ) → r.line.items ≡ take kept line → LineOut (mode_of r) r.session.machine r.number line output

-- the session answered the line that was read
pub record AnswersLine (held now : Option (List ℕ)) (old : Reader) (session : Standing) (seen : Seen) : Type 0 where
  pub output : Output
  pub replies : RepliesTo old output
  pub written : Appends held now output.text
  pub next : StandsAs session output.next old.session.limit
  pub sees : Sees seen output.text output.failing

-- the line that was read was answered, and the next one begins
pub record EndsLine (held now : Option (List ℕ)) (old new : Reader) : Type 0 where
  pub output : Output
  pub replies : RepliesTo old output
  pub written : Appends held now output.text
  pub session : StandsAs new.session output.next old.session.limit
  pub form : new.form ≡ old.form
  pub number : new.number ≡ old.number + 1
  pub line : new.line.items ≡ []
  pub failing : new.failing ≡ (old.failing || output.failing)

-- a front part of the reply to the line that was read was written
pub record AnswersWithin (held now : Option (List ℕ)) (r : Reader) : Type 0 where
  pub output : Output
  pub replies : RepliesTo r output
  pub some : AppendsSome held now output.text

-- the reader was given these bytes, and the replies to the whole lines in them were written
pub record Fed (mode : Mode) (start now : Option (List ℕ)) (r : Reader) (bytes : List ℕ) : Type 0 where
  pub lines : List (List ℕ)
  pub rest : List ℕ
  pub split : joined lines ++ rest ≡ bytes
  pub ended : NoEnds lines
  pub open_end : NoEnd rest
  pub output : Output
  pub runs : Runs mode opening 1 lines output
  pub form : r.form ≡ mode.form
  pub session : StandsAs r.session output.next mode.limit
  pub number : r.number ≡ 1 + length lines
  pub line : r.line.items ≡ take kept rest
  pub failing : r.failing ≡ output.failing
  pub written : Appends start now output.text

-- more bytes were given
abbrev pub Feeds : Option (List ℕ) → Option (List ℕ) → Reader → Reader → List ℕ → Type 0
Feeds before now old new more = (mode : Mode) (start : Option (List ℕ)) (bytes : List ℕ) → Fed mode start before old bytes → Fed mode start now new (bytes ++ more)

-- whole replies were written, and no further one
abbrev pub StopsWhole : Option (List ℕ) → Option (List ℕ) → Reader → List ℕ → Type 0
StopsWhole before now old more = (mode : Mode) (start : Option (List ℕ)) (bytes : List ℕ) → Fed mode start before old bytes → WritesLines mode start now (bytes ++ more)

-- a front part of the output was written, whatever follows
abbrev pub StopsWithin : Option (List ℕ) → Option (List ℕ) → Reader → List ℕ → Type 0
StopsWithin before now old more = (mode : Mode) (start : Option (List ℕ)) (bytes : List ℕ) → Fed mode start before old bytes → (rest : List ℕ) → WritesWithin mode start now (bytes ++ (more ++ rest))

-- a chunk was not taken whole
abbrev pub Stops : Stop → Option (List ℕ) → Option (List ℕ) → Reader → List ℕ → ℕ → Type 0
Stops stop.Memory before now old more room = StopsWhole before now old more
Stops stop.Write before now old more room = StopsWithin before now old more
Stops stop.TooLong before now old more room = (room < length more) × ((mode : Mode) (start : Option (List ℕ)) (bytes : List ℕ) → Fed mode start before old bytes → WritesOut mode start now (whole (bytes ++ take room more)))

-- the last line was answered, if there was one
abbrev pub EndsLast : Option (List ℕ) → Option (List ℕ) → Reader → Reader → Type 0
EndsLast before now old new = (mode : Mode) (start : Option (List ℕ)) (bytes : List ℕ) → Fed mode start before old bytes → WritesAs mode start now bytes new.failing

-- or a front part of its reply was written
abbrev pub EndsWithin : Option (List ℕ) → Option (List ℕ) → Reader → Type 0
EndsWithin before now old = (mode : Mode) (start : Option (List ℕ)) (bytes : List ℕ) → Fed mode start before old bytes → WritesWithin mode start now bytes

-- all bytes were taken
abbrev pub Ends : Status → Mode → Option (List ℕ) → Option (List ℕ) → List ℕ → Type 0
Ends Done mode start now bytes = WritesAs mode start now bytes false
Ends DoneRefused mode start now bytes = WritesAs mode start now bytes true
Ends Usage mode start now bytes = ⊥
Ends ReadFault mode start now bytes = ⊥
Ends WriteFault mode start now bytes = WritesWithin mode start now bytes
Ends Memory mode start now bytes = WritesLines mode start now bytes
Ends TooLong mode start now bytes = ⊥

-- the same of a sink, named by the ghost value of its type: before the call, and after it
module _ {K : Type 0} (sink : SinkGhosts K) (before now : K) where
  -- the session took a turn on what is kept of the line
  abbrev pub StepsTo : Reader → Standing → Seen → Type 0
  StepsTo old session seen = Stepped sink before now old.form (TurnsOn old) old.number old.session session seen

  -- or a front part of its reply was written
  abbrev pub StepsWithinTo : Reader → Type 0
  StepsWithinTo old = StepsWithin sink before now old.form (TurnsOn old) old.number old.session

  abbrev pub AnswersLineTo : Reader → Standing → Seen → Type 0
  AnswersLineTo old session seen = AnswersLine (sink.held before) (sink.held now) old session seen

  abbrev pub AnswersWithinTo : Reader → Type 0
  AnswersWithinTo old = AnswersWithin (sink.held before) (sink.held now) old

  abbrev pub EndsLineTo : Reader → Reader → Type 0
  EndsLineTo old new = EndsLine (sink.held before) (sink.held now) old new

  abbrev pub FeedsTo : Reader → Reader → List ℕ → Type 0
  FeedsTo old new more = Feeds (sink.held before) (sink.held now) old new more

  abbrev pub StopsWholeTo : Reader → List ℕ → Type 0
  StopsWholeTo old more = StopsWhole (sink.held before) (sink.held now) old more

  abbrev pub StopsWithinTo : Reader → List ℕ → Type 0
  StopsWithinTo old more = StopsWithin (sink.held before) (sink.held now) old more

  abbrev pub StopsTo : Stop → Reader → List ℕ → ℕ → Type 0
  StopsTo stop old more room = Stops stop (sink.held before) (sink.held now) old more room

  abbrev pub EndsLastTo : Reader → Reader → Type 0
  EndsLastTo old new = EndsLast (sink.held before) (sink.held now) old new

  abbrev pub EndsWithinTo : Reader → Type 0
  EndsWithinTo old = EndsWithin (sink.held before) (sink.held now) old

  -- whatever the reader was given, all of it was taken
  abbrev pub FinishesTo : Reader → Status → Type 0
  FinishesTo old status = (mode : Mode) (start : Option (List ℕ)) (bytes : List ℕ) → Fed mode start (sink.held before) old bytes → Ends status mode start (sink.held now) bytes
