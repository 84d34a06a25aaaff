-- What answering a line leaves of the table.
use Rattle.std.proofs.Common.{◌≡◌, ◌≢◌, ◌⊎◌, inl, inr, List, [], ◌∷◌, ◌++◌, ℕ, refl, sym, ap, subst, ◌∙◌}
use Rattle.std.specs.Prelude.{Result, Ok, Err, slice_get, IsSomeAnd, IsOkAnd}
use Rattle.itpg_base.specs.Graphs.{Graph}
use Rattle.itpg_base.specs.declared.text_code.TextCode.{TextCode}
use Rattle.itpg_edit.specs.declared.edit.Edit.{Edit}
use Rattle.itpg_edit.specs.Rules.{Unbroken, Breaks, rules_of}
use Rattle.itpg_edit.proofs.FirstOf.{first_or_unbroken}
use Rattle.itpg_edit.specs.Next.{Makes as MakesGraph}
use Rattle.edit_reader.specs.declared.line.Line.{Line}
use Rattle.edit_reader.specs.Readings.{Reading, Nothing, Changes, Asks, Wants, Watches, Shows, Unwatches, Ticks, Opens, Closes, AsksIn, Follows, Nears, Unfollows, reading_of, told as read_as}
use Rattle.plan_cache.specs.Nodes.{Table}
use Rattle.itpg_pins.specs.Pins.{Held}
use Rattle.plan_cache.specs.Footprints.{footprints_of}
use Rattle.plan_cache.specs.KeptRows.{Forgets}
use Rattle.relation_rows.specs.Answered.{Answered}
use Rattle.itpg_session.specs.Replies.{Reply, Silent, Bad, Refused, Wide, Rows, Counted, Shown, OfPin, PerWatch}
use Rattle.itpg_session.specs.Keeping.{AddsText, IsWorkedFor, IsStale, KeepsText}
use Rattle.itpg_session.specs.Machine.{Machine, Standing, Turn, Answers, TurnOf, told, after}
use Rattle.itpg_session.specs.Steps.{StandsAs, ForgetsEdit, LeavesTable, LeavesSo, LeavesLine, LeavesPins, LeavesPinsSo, LeavesPinsLine, LeavesUnmade, LeavesUnmadeLine, ForgetsLine, KeepsAsked, KeepsAskedSo, KeepsAskedLine, ShowsKept}
use Rattle.itpg_pins.specs.Pins.{held, without as without_held}
use Rattle.itpg_session.specs.Pinning.{AddsPinText}
use Rattle.itpg_session.proofs.WorkedFor.{none_for}

-- ---- nothing

reading_leaves : (s : Standing) (reading : Reading) → LeavesTable reading s s
reading_leaves s Nothing = refl
reading_leaves s (Changes edit) = inr refl
reading_leaves s (Asks text) = inr refl
reading_leaves s (Wants wanted text) = inr refl
reading_leaves s (Watches name text) = inr refl
reading_leaves s (Shows name) = none_for (λ w. IsStale s.machine.watches w × (w.name ≡ name)) s.table
reading_leaves s (Unwatches name) = refl
reading_leaves s Ticks = none_for (IsStale s.machine.watches) s.table
reading_leaves s (Opens name) = refl
reading_leaves s (Closes name) = refl
reading_leaves s (AsksIn name text) = refl
reading_leaves s (Follows name text) = refl
reading_leaves s (Nears name id) = refl
reading_leaves s (Unfollows name) = refl

so_leaves : (s : Standing) (what : Result Reading TextCode) → LeavesSo what s s
so_leaves s (Ok reading) = reading_leaves s reading
so_leaves s (Err code) = refl

pub line_leaves : (s : Standing) (Is : Result Reading TextCode → Type 0) → LeavesLine Is s s
line_leaves s Is = λ what is. so_leaves s what

-- ---- the pins

pins_same : (reading : Reading) (old new : Standing) → new.pins ≡ old.pins → LeavesPins reading old new
pins_same Nothing old new is = is
pins_same (Changes edit) old new is = is
pins_same (Asks text) old new is = is
pins_same (Wants wanted text) old new is = is
pins_same (Watches name text) old new is = is
pins_same (Shows name) old new is = is
pins_same (Unwatches name) old new is = is
pins_same Ticks old new is = is
pins_same (Opens name) old new is = inr is
pins_same (Closes name) old new is = inr is
pins_same (AsksIn name text) old new is = inr is
pins_same (Follows name text) old new is = is
pins_same (Nears name id) old new is = is
pins_same (Unfollows name) old new is = is

so_pins_same : (what : Result Reading TextCode) (old new : Standing) → new.pins ≡ old.pins → LeavesPinsSo what old new
so_pins_same (Ok reading) old new is = pins_same reading old new is
so_pins_same (Err code) old new is = is

pub line_pins_same : (s : Standing) (Is : Result Reading TextCode → Type 0) → LeavesPinsLine Is s s
line_pins_same s Is = λ what is. so_pins_same what s s refl

-- what is said of the pins after a line is said of any session that has them then
pins_on : (reading : Reading) (old mid new : Standing) → new.pins ≡ mid.pins → LeavesPins reading old mid → LeavesPins reading old new
pins_on Nothing old mid new is a = is ∙ a
pins_on (Changes edit) old mid new is a = is ∙ a
pins_on (Asks text) old mid new is a = is ∙ a
pins_on (Wants wanted text) old mid new is a = is ∙ a
pins_on (Watches name text) old mid new is a = is ∙ a
pins_on (Shows name) old mid new is a = is ∙ a
pins_on (Unwatches name) old mid new is a = is ∙ a
pins_on Ticks old mid new is a = is ∙ a
pins_on (Opens name) old mid new is a = subst (λ (ps : List Held). (ps ≡ old.pins ++ held name old.machine.graph old.table ∷ []) ⊎ (ps ≡ old.pins)) (sym is) a
pins_on (Closes name) old mid new is a = subst (λ (ps : List Held). (ps ≡ without_held name old.pins) ⊎ (ps ≡ old.pins)) (sym is) a
pins_on (AsksIn name text) old mid new is a = subst (λ (ps : List Held). AddsPinText name text old.pins ps) (sym is) a
pins_on (Follows name text) old mid new is a = is ∙ a
pins_on (Nears name id) old mid new is a = is ∙ a
pins_on (Unfollows name) old mid new is a = is ∙ a

so_pins_on : (what : Result Reading TextCode) (old mid new : Standing) → new.pins ≡ mid.pins → LeavesPinsSo what old mid → LeavesPinsSo what old new
so_pins_on (Ok reading) old mid new is a = pins_on reading old mid new is a
so_pins_on (Err code) old mid new is a = is ∙ a

-- what is decided of the pins for what a line is, is so of the line
pub line_pins : (Is : Result Reading TextCode → Type 0) (what : Result Reading TextCode) (old mid new : Standing) → ((other : Result Reading TextCode) → Is other → other ≡ what) → new.pins ≡ mid.pins → LeavesPinsSo what old mid
    → LeavesPinsLine Is old new
line_pins Is what old mid new only is a = λ other of. subst (λ w. LeavesPinsSo w old new) (sym (only other of)) (so_pins_on what old mid new is a)

-- a line that shows a watch is no edit
pub kept_forgets : (s : Standing) (Is : Result Reading TextCode → Type 0) (what : Result Line TextCode) (answer : Answered) → ((other : Result Reading TextCode) → Is other → other ≡ read_as what) → IsOkAnd what (λ l. ShowsKept s (reading_of l) answer) → ForgetsLine Is s s
kept_forgets s Is (Ok l) answer only kept = λ edit is unbroken.
    let same : reading_of l ≡ Changes edit = (let e = only (Ok (Changes edit)) is in cc) in
    absurd (subst (λ (r : Reading). ShowsKept s r answer) same kept)
kept_forgets s Is (Err code) answer only kept = absurd kept

-- and no question
shows_asks : (s : Standing) (reading : Reading) (answer : Answered) → ShowsKept s reading answer → KeepsAsked reading s s
shows_asks s Nothing answer k = tt
shows_asks s (Changes edit) answer k = tt
shows_asks s (Asks text) answer k = absurd k
shows_asks s (Wants wanted text) answer k = absurd k
shows_asks s (Watches name text) answer k = tt
shows_asks s (Shows name) answer k = tt
shows_asks s (Unwatches name) answer k = tt
shows_asks s Ticks answer k = tt
shows_asks s (Opens name) answer k = tt
shows_asks s (Closes name) answer k = tt
shows_asks s (AsksIn name text) answer k = absurd k
shows_asks s (Follows name text) answer k = tt
shows_asks s (Nears name id) answer k = tt
shows_asks s (Unfollows name) answer k = tt

pub kept_asks : (s : Standing) (Is : Result Reading TextCode → Type 0) (what : Result Line TextCode) (answer : Answered) → ((other : Result Reading TextCode) → Is other → other ≡ read_as what) → IsOkAnd what (λ l. ShowsKept s (reading_of l) answer) → KeepsAskedLine Is s s
kept_asks s Is (Ok l) answer only kept = λ other of. subst (λ (w : Result Reading TextCode). KeepsAskedSo w s s) (sym (only other of)) (shows_asks s (reading_of l) answer kept)
kept_asks s Is (Err code) answer only kept = absurd kept

-- what is read is one reading
abbrev IsRead : Result Reading TextCode → Reading → Type 0
IsRead what reading = what ≡ Ok reading

pub one_reading : (a b : Reading) → IsRead (Ok a) b → a ≡ b
one_reading a b is = cc

-- a session that is as it was leaves the table
pub same_unmade : (s : Standing) (Is : Result Reading TextCode → Type 0) → LeavesUnmadeLine Is s s
same_unmade s Is = λ what is edit read. refl

-- what an edit that is decided and says something leaves: it was refused
turn_refused : (limit : ℕ) (m : Machine) (edit : Edit) (t : Turn) → t.reply ≢ Silent → Answers limit m (Changes edit) t → Unbroken m.graph edit → ⊥
unfolding Answers
turn_refused limit m edit t says (inl refused) unbroken = first_or_unbroken (Breaks m.graph edit) (rules_of edit) refused.rule refused.first unbroken
turn_refused limit m edit t says (inr made) unbroken = says (ap (λ (u : Turn). u.reply) made.is)

edit_refused : (limit : ℕ) (m : Machine) (edit : Edit) (t : Turn) → t.reply ≢ Silent → TurnOf limit m (Ok (Changes edit)) t → Unbroken m.graph edit → ⊥
unfolding TurnOf
edit_refused limit m edit t says turn unbroken = turn_refused limit m edit t says turn unbroken

unmade_of : (edit : Edit) (old new : Standing) → (Unbroken old.machine.graph edit → ⊥) → LeavesTable (Changes edit) old new → new.table ≡ old.table
unmade_of edit old new broken (inl made) = absurd (broken made.makes.unbroken)
unmade_of edit old new broken (inr same) = same

pub said_unmade : (what : Result Reading TextCode) (old mid : Standing) (reply : Reply) → reply ≢ Silent → TurnOf old.limit old.machine what (told mid.machine reply) → LeavesSo what old mid → LeavesUnmade what old mid
said_unmade what old mid reply says turn left = λ edit is.
    let own : TurnOf old.limit old.machine (Ok (Changes edit)) (told mid.machine reply) = subst (λ w. TurnOf old.limit old.machine w (told mid.machine reply)) is turn in
    unmade_of edit old mid (edit_refused old.limit old.machine edit (told mid.machine reply) says own) (subst (λ w. LeavesSo w old mid) is left)

pub line_unmade : (Is : Result Reading TextCode → Type 0) (what : Result Reading TextCode) (old new : Standing) → ((other : Result Reading TextCode) → Is other → other ≡ what) → LeavesUnmade what old new → LeavesUnmadeLine Is old new
line_unmade Is what old new only a = λ other of edit is. a edit (sym (only other of) ∙ is)

-- ---- a reply that is settled

after_graph : (m : Machine) (reply : Reply) → (after m reply).graph ≡ m.graph
after_graph m Silent = refl
after_graph m (Bad code) = refl
after_graph m (Refused rule) = refl
after_graph m Wide = refl
after_graph m (Rows answer) = refl
after_graph m (Counted counts) = refl
after_graph m (Shown place found) = refl
after_graph m (OfPin place answer) = refl
after_graph m (PerWatch found) = refl

-- the table and the graph stay from here on
module _ (old mid new : Standing) (table : new.table ≡ mid.table) (graph : new.machine.graph ≡ mid.machine.graph) where
  forgets_on : (edit : Edit) → ForgetsEdit edit old mid → ForgetsEdit edit old new
  forgets_on edit f = record {
    touch = f.touch;
    makes = subst (λ (g : Graph). MakesGraph old.machine.graph edit g f.touch) (sym graph) f.makes;
    nodes = ap (λ (t : Table). t.nodes) table ∙ f.nodes;
    forgets = subst (λ (t : Table). Forgets f.touch (footprints_of old.table.nodes) old.table.kept t.kept) (sym table) f.forgets;
  }

  reading_on : (reading : Reading) → LeavesTable reading old mid → LeavesTable reading old new
  reading_on Nothing a = table ∙ a
  reading_on (Changes edit) (inl a) = inl (forgets_on edit a)
  reading_on (Changes edit) (inr a) = inr (table ∙ a)
  reading_on (Asks text) a = subst (AddsText text old.machine.watches old.table) (sym table) a
  reading_on (Wants wanted text) a = subst (AddsText text old.machine.watches old.table) (sym table) a
  reading_on (Watches name text) a = subst (AddsText text old.machine.watches old.table) (sym table) a
  reading_on (Shows name) a = subst (IsWorkedFor (λ w. IsStale old.machine.watches w × (w.name ≡ name)) old.table) (sym table) a
  reading_on (Unwatches name) a = table ∙ a
  reading_on Ticks a = subst (IsWorkedFor (IsStale old.machine.watches) old.table) (sym table) a
  reading_on (Opens name) a = table ∙ a
  reading_on (Closes name) a = table ∙ a
  reading_on (AsksIn name text) a = table ∙ a
  reading_on (Follows name text) a = table ∙ a
  reading_on (Nears name id) a = table ∙ a
  reading_on (Unfollows name) a = table ∙ a

  so_on : (what : Result Reading TextCode) → LeavesSo what old mid → LeavesSo what old new
  so_on (Ok reading) a = reading_on reading a
  so_on (Err code) a = table ∙ a

-- what is decided of what a line is, is so of the line
pub line_so : (Is : Result Reading TextCode → Type 0) (what : Result Reading TextCode) (old new : Standing) → ((other : Result Reading TextCode) → Is other → other ≡ what) → LeavesSo what old new → LeavesLine Is old new
line_so Is what old new only a = λ other is. subst (λ w. LeavesSo w old new) (sym (only other is)) a

pub line_settled : (Is : Result Reading TextCode → Type 0) (what : Result Reading TextCode) (old mid new : Standing) (reply : Reply) (limit : ℕ) → ((other : Result Reading TextCode) → Is other → other ≡ what)
    → new.table ≡ mid.table → StandsAs new (after mid.machine reply) limit → LeavesSo what old mid → LeavesLine Is old new
line_settled Is what old mid new reply limit only table stands a = line_so Is what old new only (so_on old mid new table (ap (λ (m : Machine). m.graph) stands.machine ∙ after_graph mid.machine reply) what a)

pub forgets_settled : (Is : Result Reading TextCode → Type 0) (what : Result Reading TextCode) (old mid new : Standing) (reply : Reply) (limit : ℕ) → ((other : Result Reading TextCode) → Is other → other ≡ what)
    → new.table ≡ mid.table → StandsAs new (after mid.machine reply) limit → ((edit : Edit) → what ≡ Ok (Changes edit) → Unbroken old.machine.graph edit → ForgetsEdit edit old mid) → ForgetsLine Is old new
forgets_settled Is what old mid new reply limit only table stands a = λ edit is unbroken.
    forgets_on old mid new table (ap (λ (m : Machine). m.graph) stands.machine ∙ after_graph mid.machine reply) edit (a edit (sym (only (Ok (Changes edit)) is)) unbroken)

-- what is kept of a question that was decided stays so
module _ (old mid new : Standing) (table : new.table ≡ mid.table) (pins : new.pins ≡ mid.pins) (graph : new.machine.graph ≡ mid.machine.graph) where
  text_on : (text : List ℕ) → KeepsText mid.machine.graph text mid.table → KeepsText new.machine.graph text new.table
  text_on text kept = subst (λ (g : Graph). KeepsText g text new.table) (sym graph) (subst (KeepsText mid.machine.graph text) (sym table) kept)

  asked_on : (what : Result Reading TextCode) → KeepsAskedSo what old mid → KeepsAskedSo what old new
  asked_on (Ok Nothing) a = tt
  asked_on (Ok (Changes edit)) a = tt
  asked_on (Ok (Asks text)) a = λ answer rows. text_on text (a answer rows)
  asked_on (Ok (Wants wanted text)) a = λ all rows. text_on text (a all rows)
  asked_on (Ok (Watches name text)) a = tt
  asked_on (Ok (Shows name)) a = tt
  asked_on (Ok (Unwatches name)) a = tt
  asked_on (Ok Ticks) a = tt
  asked_on (Ok (Opens name)) a = tt
  asked_on (Ok (Closes name)) a = tt
  asked_on (Ok (AsksIn name text)) a = λ place answer turn. subst (λ (ps : List Held). IsSomeAnd (slice_get ps place) (λ p. KeepsText p.graph text p.table)) (sym pins) (a place answer turn)
  asked_on (Ok (Follows name text)) a = tt
  asked_on (Ok (Nears name id)) a = tt
  asked_on (Ok (Unfollows name)) a = tt
  asked_on (Err code) a = tt

pub asked_settled : (Is : Result Reading TextCode → Type 0) (what : Result Reading TextCode) (old mid new : Standing) (reply : Reply) (limit : ℕ) → ((other : Result Reading TextCode) → Is other → other ≡ what)
    → new.table ≡ mid.table → new.pins ≡ mid.pins → StandsAs new (after mid.machine reply) limit → KeepsAskedSo what old mid → KeepsAskedLine Is old new
asked_settled Is what old mid new reply limit only table pins stands a = λ other of.
    let graph : new.machine.graph ≡ mid.machine.graph = ap (λ (m : Machine). m.graph) stands.machine ∙ after_graph mid.machine reply in
    subst (λ (w : Result Reading TextCode). KeepsAskedSo w old new) (sym (only other of)) (asked_on old mid new table pins graph what a)
