-- What a step of the session does.
use Rattle.std.specs.Prelude.{◌≡◌, ◌≢◌, ◌↔◌, ◌⊎◌, ℕ, List, [], ◌∷◌, ◌++◌, Bool, true, length, slice_get, Some, IsSomeAnd, Result, Ok, Err}
use Rattle.itpg_base.specs.Sinks.{Gets, GetsSome}
use Rattle.itpg_base.specs.declared.outside.Sink.{Ghosts}
use Rattle.itpg_base.specs.declared.text_code.TextCode.{TextCode}
use Rattle.itpg_base.specs.Words.{Word}
use Rattle.path_ast.specs.Terms.{QueryTerm}
use Rattle.itpg_edit.specs.Rules.{NoneOf, Unbroken}
use Rattle.itpg_base.specs.declared.touch.Touch.{Touch}
use Rattle.itpg_edit.specs.declared.edit.Edit.{Edit}
use Rattle.itpg_edit.specs.Next.{Makes as MakesGraph, TakesMemory}
use Rattle.plan_cache.specs.Footprints.{footprints_of}
use Rattle.plan_cache.specs.KeptRows.{Forgets}
use Rattle.edit_reader.specs.Readings.{Reading, Changes, Asks, Wants, Watches, Shows, Ticks, Opens, Closes, AsksIn, Follows, Nears}
use Rattle.row_printer.specs.Texts.{AreDeclared}
use Rattle.row_printer.specs.declared.form.Form.{Form}
use Rattle.itpg_session.specs.Rules.{NameBreaks, TickBreaks, OpenBreaks, NearBreaks, name_rules, tick_rules, open_rules}
use Rattle.itpg_session.specs.Ticks.{AreTicked}
use Rattle.relation_rows.specs.Answered.{Answered}
use Rattle.itpg_session.specs.Questions.{HasAnswer}
use Rattle.itpg_session.specs.PlainWatches.{PlainWatch, IsFresh}
use Rattle.itpg_session.specs.Replies.{Reply, Silent, Rows, Shown, OfPin, PerWatch, FindsFor, IsReply, line_reply}
use Rattle.itpg_session.specs.Wanting.{Outcome, IsReplyWanted, reply_with}
use Rattle.itpg_session.specs.Texts.{text_of, fails}
use Rattle.itpg_base.specs.Lists.{Among}
use Rattle.itpg_session.specs.Keeping.{AreReplanned, AddsText, IsWorkedFor, IsStale, KeepsPath, KeepsText, KeepsFound, KeepAllTicked}
use Rattle.itpg_session.specs.Machine.{Machine, Standing, Turn, AsksPinText, AsksPinQuery, told}
use Rattle.itpg_pins.specs.Pins.{held, without as without_held}
use Rattle.itpg_session.specs.Pinning.{AddsPinText}
use Rattle.itpg_session.specs.Following.{NearsKept}
use Rattle.itpg_session.specs.declared.reply.Reply.{Reply as ReplyValue}
use Rattle.itpg_session.specs.declared.reply.Seen.{Seen}
use Rattle.itpg_session.specs.declared.reply.Seen.TheVariants.{Quiet, Refused}

-- what is seen of a reply: whether its text is empty, and whether it fails
pub record Sees (seen : Seen) (text : List ℕ) (failing : Bool) : Type 0 where
  pub quiet : (seen ≡ Quiet) ↔ (text ≡ [])
  pub refused : (seen ≡ Refused) ↔ (failing ≡ true)

-- the session stands as this machine, with this limit
pub record StandsAs (s : Standing) (m : Machine) (most : ℕ) : Type 0 where
  pub machine : s.machine ≡ m
  pub limit : s.limit ≡ most

-- nothing is other than it was but the tables of plans, and the watches' numbers in theirs
pub record IsAlike (old new : Standing) : Type 0 where
  pub machine : new.machine ≡ old.machine
  pub limit : new.limit ≡ old.limit
  pub watches : AreReplanned old.watches new.watches

-- a turn was taken: its reply was written whole, and the machine went on
pub record Stepped {K : Type 0} (sink : Ghosts K) (before after : K) (form : Form) (Turns : Turn → Type 0) (number : ℕ) (old new : Standing) (seen : Seen) : Type 0 where
  pub turn : Turn
  pub turns : Turns turn
  pub written : Gets sink before after (text_of form old.machine number turn.reply)
  pub next : StandsAs new turn.next old.limit
  pub sees : Sees seen (text_of form old.machine number turn.reply) (fails turn.reply)

-- a front part of a turn's reply was written
pub record StepsWithin {K : Type 0} (sink : Ghosts K) (before after : K) (form : Form) (Turns : Turn → Type 0) (number : ℕ) (old : Standing) : Type 0 where
  pub turn : Turn
  pub turns : Turns turn
  pub some : GetsSome sink before after (text_of form old.machine number turn.reply)

-- a turn was taken, and nothing of its reply was written
pub record Passed (Turns : Turn → Type 0) (old new : Standing) : Type 0 where
  pub turn : Turn
  pub turns : Turns turn
  pub next : StandsAs new turn.next old.limit

-- the edit is made, and exactly those relations stay kept whose node's footprint its touch doesn't meet
pub record ForgetsEdit (edit : Edit) (old new : Standing) : Type 0 where
  pub touch : Touch
  pub makes : MakesGraph old.machine.graph edit new.machine.graph touch
  pub nodes : new.table.nodes ≡ old.table.nodes
  pub forgets : Forgets touch (footprints_of old.table.nodes) old.table.kept new.table.kept

-- what answering a line that asks for this leaves of the table
abbrev pub LeavesTable : Reading → Standing → Standing → Type 0
LeavesTable (Changes edit) old new = ForgetsEdit edit old new ⊎ (new.table ≡ old.table)
LeavesTable (Asks text) old new = AddsText text old.machine.watches old.table new.table
LeavesTable (Wants wanted text) old new = AddsText text old.machine.watches old.table new.table
LeavesTable (Watches name text) old new = AddsText text old.machine.watches old.table new.table
LeavesTable (Shows name) old new = IsWorkedFor (λ w. IsStale old.machine.watches w × (w.name ≡ name)) old.table new.table
LeavesTable Ticks old new = IsWorkedFor (IsStale old.machine.watches) old.table new.table
LeavesTable reading old new = new.table ≡ old.table

-- the same of what a line is
abbrev pub LeavesSo : Result Reading TextCode → Standing → Standing → Type 0
LeavesSo (Ok reading) old new = LeavesTable reading old new
LeavesSo (Err code) old new = new.table ≡ old.table

-- an edit that a line is which is this, and that breaks no rule, is made so
abbrev pub ForgetsLine : (Result Reading TextCode → Type 0) → Standing → Standing → Type 0
ForgetsLine Is old new = (edit : Edit) → Is (Ok (Changes edit)) → Unbroken old.machine.graph edit → ForgetsEdit edit old new

-- and what answering such a line leaves of the table
abbrev pub LeavesLine : (Result Reading TextCode → Type 0) → Standing → Standing → Type 0
LeavesLine Is old new = (what : Result Reading TextCode) → Is what → LeavesSo what old new

-- an edit that isn't made leaves the table
abbrev pub LeavesUnmade : Result Reading TextCode → Standing → Standing → Type 0
LeavesUnmade what old new = (edit : Edit) → what ≡ Ok (Changes edit) → new.table ≡ old.table

abbrev pub LeavesUnmadeLine : (Result Reading TextCode → Type 0) → Standing → Standing → Type 0
LeavesUnmadeLine Is old new = (what : Result Reading TextCode) → Is what → LeavesUnmade what old new

-- what answering a line that asks for this leaves of the pins and of their tables
abbrev pub LeavesPins : Reading → Standing → Standing → Type 0
LeavesPins (Opens name) old new = (new.pins ≡ old.pins ++ held name old.machine.graph old.table ∷ []) ⊎ (new.pins ≡ old.pins)
LeavesPins (Closes name) old new = (new.pins ≡ without_held name old.pins) ⊎ (new.pins ≡ old.pins)
LeavesPins (AsksIn name text) old new = AddsPinText name text old.pins new.pins
LeavesPins reading old new = new.pins ≡ old.pins

-- the same of what a line is
abbrev pub LeavesPinsSo : Result Reading TextCode → Standing → Standing → Type 0
LeavesPinsSo (Ok reading) old new = LeavesPins reading old new
LeavesPinsSo (Err code) old new = new.pins ≡ old.pins

-- and of a line that is this
abbrev pub LeavesPinsLine : (Result Reading TextCode → Type 0) → Standing → Standing → Type 0
LeavesPinsLine Is old new = (what : Result Reading TextCode) → Is what → LeavesPinsSo what old new

-- what was worked out for the reply is kept
abbrev pub KeepsReply : Reply → Standing → Type 0
KeepsReply (Shown place found) s = IsSomeAnd (slice_get s.machine.watches place) (λ w. KeepsFound s.machine.graph s.table w found)
KeepsReply (PerWatch found) s = KeepAllTicked s.machine.graph s.table s.machine.watches found
KeepsReply reply s = Unit {0}

-- a fresh watch of this name and this query stands
abbrev pub WasFresh : List PlainWatch → PlainWatch → Type 0
WasFresh watches w = (v : PlainWatch) × Among watches v × (v.name ≡ w.name) × (v.query ≡ w.query) × (v.fresh ≡ true)

-- each watch that is fresh was so before, or the relation that was worked out for it is kept, if there is room
abbrev pub KeepsFresh : Standing → Standing → Type 0
KeepsFresh old new = (w : PlainWatch) → Among new.machine.watches w → w.fresh ≡ true → WasFresh old.machine.watches w ⊎ KeepsPath new.machine.graph w.query.path new.table

-- after a question that is answered with rows, or a text of which rows or counts were wanted and told, the relation that was worked
-- out for it is kept, if there is room; after one that is asked of a pin, in the pin's table
abbrev pub KeepsAsked : Reading → Standing → Standing → Type 0
KeepsAsked (Asks text) old new = (answer : Answered) → IsReply old.machine.graph old.limit text (Rows answer) → KeepsText new.machine.graph text new.table
KeepsAsked (Wants wanted text) old new = (all : Outcome) → IsReplyWanted old.machine.graph old.limit wanted text (reply_with (Some all)) → KeepsText new.machine.graph text new.table
KeepsAsked (AsksIn name text) old new =
    (place : ℕ) (answer : Answered) → AsksPinText old.limit old.machine name text (told old.machine (OfPin place answer)) → IsSomeAnd (slice_get new.pins place) (λ p. KeepsText p.graph text p.table)
KeepsAsked reading old new = Unit {0}

-- the same of a query that is asked of the pin of a name
abbrev pub KeepsAskedPin : Word → QueryTerm → Standing → Standing → Type 0
KeepsAskedPin name q old new =
    (place : ℕ) (answer : Answered) → AsksPinQuery old.limit old.machine name q (told old.machine (OfPin place answer)) → IsSomeAnd (slice_get new.pins place) (λ p. KeepsPath p.graph q.path p.table)

-- the same of what a line is
abbrev pub KeepsAskedSo : Result Reading TextCode → Standing → Standing → Type 0
KeepsAskedSo (Ok reading) old new = KeepsAsked reading old new
KeepsAskedSo (Err code) old new = Unit {0}

-- and of a line that is this
abbrev pub KeepsAskedLine : (Result Reading TextCode → Type 0) → Standing → Standing → Type 0
KeepsAskedLine Is old new = (what : Result Reading TextCode) → Is what → KeepsAskedSo what old new

-- the line asks for what is kept, and breaks no rule: to show a watch that is fresh, or for a follow's rows from an object, which are
-- kept of it
abbrev pub IsAtHand : Standing → Reading → Type 0
IsAtHand s (Shows name) = NoneOf (NameBreaks s.machine.graph s.machine.watches name) name_rules × IsFresh s.machine.watches name
IsAtHand s (Nears name id) = (answer : Answered) × NearsKept s name id answer
IsAtHand s reading = ⊥

-- so it is with a line that is this
abbrev pub IsLineAtHand : Standing → (Result Reading TextCode → Type 0) → Type 0
IsLineAtHand s Is = (reading : Reading) × Is (Ok reading) × IsAtHand s reading

-- the line asks to show a watch of which this answer is kept, and breaks no rule
pub record ShowsNameKept (s : Standing) (name : Word) (answer : Answered) : Type 0 where
  pub unbroken : NoneOf (NameBreaks s.machine.graph s.machine.watches name) name_rules
  pub place : ℕ
  pub watch : PlainWatch
  pub at : slice_get s.machine.watches place ≡ Some watch
  pub named : watch.name ≡ name
  pub fresh : watch.fresh ≡ true
  pub answers : HasAnswer s.machine.graph s.limit watch.query answer

-- the line asks for this answer, which is kept, and breaks no rule
abbrev pub ShowsKept : Standing → Reading → Answered → Type 0
ShowsKept s (Shows name) answer = ShowsNameKept s name answer
ShowsKept s (Nears name id) answer = NearsKept s name id answer
ShowsKept s reading answer = ⊥

-- to answer what a line asks for takes memory: a change that breaks no rule, other than to begin a graph or to drop an
-- object; a query text, which is read; a watch that is shown and isn't fresh, a tick, a pin that is opened, or rows from an object, that
-- breaks no rule
abbrev pub WantsMemory : Machine → Reading → Type 0
WantsMemory m (Changes edit) = Unbroken m.graph edit × TakesMemory edit
WantsMemory m (Asks text) = Unit {0}
WantsMemory m (Wants wanted text) = Unit {0}
WantsMemory m (Watches name text) = Unit {0}
WantsMemory m (Shows name) = NoneOf (NameBreaks m.graph m.watches name) name_rules × (¬ IsFresh m.watches name)
WantsMemory m Ticks = NoneOf (TickBreaks m.graph) tick_rules
WantsMemory m (Opens name) = NoneOf (OpenBreaks m.graph m.pins name) open_rules
WantsMemory m (AsksIn name text) = Unit {0}
WantsMemory m (Follows name text) = Unit {0}
WantsMemory m (Nears name id) = NoneOf (NearBreaks m.graph m.follows name id) name_rules
WantsMemory m reading = ⊥

-- the same of what a line is
abbrev pub WhatWants : Machine → Result Reading TextCode → Type 0
WhatWants m (Ok reading) = WantsMemory m reading
WhatWants m (Err code) = ⊥

-- a line that is this asks for what takes memory
abbrev pub LineWants : Machine → (Result Reading TextCode → Type 0) → Type 0
LineWants m Is = (reading : Reading) × Is (Ok reading) × WantsMemory m reading

-- the reply is decided: it is that of one of these turns; and where it says something, the session is as it was but for its plans
pub record IsDecided (Turns : Turn → Type 0) (old new : Standing) (reply : Reply) : Type 0 where
  pub turns : Turns (told new.machine reply)
  pub waits : reply ≢ Silent → IsAlike old new
  pub limit : new.limit ≡ old.limit

-- a reply is decided; or memory ran out, which comes only if this is so, and the session is as it was but for its plans
abbrev pub Decides : {E : Type 0} → (Turn → Type 0) → Type 0 → Standing → Standing → Result ReplyValue E → Type 0
Decides Turns wants old new (Ok reply) = IsDecided Turns old new (line_reply reply)
Decides Turns wants old new (Err error) = IsAlike old new × wants

-- the reply is one of the session: its rows are of declared objects, those of a pin's graph too, and it has what is found for a watch
-- that stands, or what a tick finds of all of them
abbrev pub Suits : Standing → Reply → Type 0
Suits s (Rows answer) = AreDeclared (length s.machine.graph.objects) answer
Suits s (Shown place found) = IsSomeAnd (slice_get s.machine.watches place) (λ w. FindsFor s.machine.graph s.limit w.query found)
Suits s (OfPin place answer) = IsSomeAnd (slice_get s.machine.pins place) (λ p. AreDeclared (length p.graph.objects) answer)
Suits s (PerWatch found) = AreTicked s.machine.graph s.limit s.machine.watches found
Suits s reply = Unit {0}
