-- What a line asks for, as plain data.
use Rattle.std.specs.Prelude.{ℕ, List, Result, Ok, Err}
use Rattle.itpg_base.specs.Words.{Word}
use Rattle.itpg_base.specs.declared.text_code.TextCode.{TextCode}
use Rattle.itpg_edit.specs.declared.edit.Edit.{Edit}
use Rattle.edit_reader.specs.declared.line.Line.{Line}
use Rattle.edit_reader.specs.declared.line.Wanted.{Wanted}
use Rattle.edit_reader.specs.declared.line.Wanted.TheVariants.{First, Last, Count}

-- nothing, a change of the graph, the answer to a query text, or its first arrivals, last departures or counts, to watch a
-- query text under a name, a watch's answer, to forget a watch, the changes of all watches, to pin the graph under a name, to
-- give up a pin, the answer to a query text on a pin's graph, to follow a query text under a name, the rows of a follow from an
-- object, or to forget a follow
pub data Reading : Type 0 where
  Nothing : Reading
  Changes : Edit → Reading
  Asks : List ℕ → Reading
  Wants : Wanted → List ℕ → Reading
  Watches : Word → List ℕ → Reading
  Shows : Word → Reading
  Unwatches : Word → Reading
  Ticks : Reading
  Opens : Word → Reading
  Closes : Word → Reading
  AsksIn : Word → List ℕ → Reading
  Follows : Word → List ℕ → Reading
  Nears : Word → Word → Reading
  Unfollows : Word → Reading

-- what a line of the code asks for
abbrev pub reading_of : Line → Reading
reading_of Line.Blank = Nothing
reading_of (Line.Edit edit) = Changes edit.now
reading_of (Line.Ask query) = Asks query.now
reading_of (Line.First query) = Wants First query.now
reading_of (Line.Last query) = Wants Last query.now
reading_of (Line.Count query) = Wants Count query.now
reading_of (Line.Watch name query) = Watches name query.now
reading_of (Line.Show name) = Shows name
reading_of (Line.Unwatch name) = Unwatches name
reading_of Line.Tick = Ticks
reading_of (Line.OpenPin name) = Opens name
reading_of (Line.ClosePin name) = Closes name
reading_of (Line.InPin name query) = AsksIn name query.now
reading_of (Line.Follow name query) = Follows name query.now
reading_of (Line.Near name id) = Nears name id
reading_of (Line.Unfollow name) = Unfollows name

-- the answer of the code as plain data: what the line asks for, or its fault
abbrev pub told : Result Line TextCode → Result Reading TextCode
told (Ok line) = Ok (reading_of line)
told (Err code) = Err code
