-- The text of a reply in a form, and whether it fails: functions of the reply, of the line's number, and of the machine, whose graphs
-- have the names.
use Rattle.std.specs.Prelude.{ℕ, List, [], ◌∷◌, ◌++◌, slice_get, Bool, true, false, Option, None, Some, is_none}
use Rattle.itpg_base.specs.Graphs.{Graph}
use Rattle.relation_rows.specs.Answered.{Answered, row_number}
use Rattle.row_printer.specs.declared.form.Form.{Form}
use Rattle.reply_text.specs.Texts.{bad_text, refused_text, wide_text, head_text, rows_in, rows_text, counted_text, tick_wide_text, changes_text}
use Rattle.itpg_session.specs.Ticks.{Ticked, StaysWide, Moves, some_wide}
use Rattle.itpg_session.specs.PlainPins.{Pin}
use Rattle.itpg_session.specs.Replies.{Reply, Silent, Bad, Refused, Wide, Rows, Counted, Shown, OfPin, PerWatch}
use Rattle.itpg_session.specs.Machine.{Machine}

-- what is written of a watch: that it is wide, or what changed
abbrev pub ticked_text : Form → Graph → Ticked → List ℕ
ticked_text form g (StaysWide name) = tick_wide_text form name
ticked_text form g (Moves name now gained lost) = changes_text form g name gained lost

-- what is written of all watches, in order
abbrev pub tick_text : Form → Graph → List Ticked → List ℕ
tick_text form g [] = []
tick_text form g (x ∷ xs) = ticked_text form g x ++ tick_text form g xs

-- what is found for a query: that it is wide, or the rows of its answer
abbrev pub found_text : Form → Graph → ℕ → Option Answered → List ℕ
found_text form g number None = wide_text form number
found_text form g number (Some answer) = rows_text form g number answer

-- a line for each row of the answer, by the names of a pin's graph
abbrev pub pin_rows_text : Form → Option Pin → Answered → List ℕ
pin_rows_text form None answer = []
pin_rows_text form (Some p) answer = rows_in form p.graph answer

-- the text of the reply to the line of a number
abbrev pub text_of : Form → Machine → ℕ → Reply → List ℕ
text_of form m number Silent = []
text_of form m number (Bad code) = bad_text form number code
text_of form m number (Refused rule) = refused_text form number rule
text_of form m number Wide = wide_text form number
text_of form m number (Rows answer) = rows_text form m.graph number answer
text_of form m number (Counted counts) = counted_text form number counts
text_of form m number (Shown place found) = found_text form m.graph number found
text_of form m number (OfPin place answer) = head_text form number (row_number answer) ++ pin_rows_text form (slice_get m.pins place) answer
text_of form m number (PerWatch found) = tick_text form m.graph found

-- the reply is bad, refused or wide, or some line of it is
abbrev pub fails : Reply → Bool
fails Silent = false
fails (Bad code) = true
fails (Refused rule) = true
fails Wide = true
fails (Rows answer) = false
fails (Counted counts) = false
fails (Shown place found) = is_none found
fails (OfPin place answer) = false
fails (PerWatch found) = some_wide found
