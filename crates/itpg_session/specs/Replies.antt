-- The reply to a line, as a value; and which one a query text has.
use Rattle.std.specs.Prelude.{ℕ, List, length, map, Option, Some, None, option_map, Result, Ok, Err}
use Rattle.itpg_base.specs.Graphs.{Graph}
use Rattle.itpg_base.specs.declared.rule_code.RuleCode.{RuleCode}
use Rattle.itpg_base.specs.declared.text_code.TextCode.{TextCode}
use Rattle.itpg_edit.specs.Rules.{FirstOf, NoneOf}
use Rattle.path_ast.specs.Terms.{QueryTerm}
use Rattle.match_parser.specs.Reading.{Reads, FaultOf}
use Rattle.relation_rows.specs.Answered.{Answered, answered}
use Rattle.arrivals.specs.declared.counts.CountRow.{CountRow}
use Rattle.row_printer.specs.Texts.{AreDeclared}
use Rattle.itpg_session.specs.declared.asking.Asked.{Asked}
use Rattle.itpg_session.specs.declared.asking.Asked.TheVariants as asked
use Rattle.itpg_session.specs.declared.reply.Reply.{Reply as ReplyValue}
use Rattle.itpg_session.specs.declared.reply.Reply.TheVariants as value
use Rattle.path_eval.specs.Nearby.{IsTooWideNear}
use Rattle.itpg_session.specs.Questions.{IsTooWide, HasAnswer, HasRowsFrom}
use Rattle.itpg_session.specs.Rules.{QueryBreaks, ask_rules}
use Rattle.itpg_session.specs.Ticks.{Ticked, ticked_of}

-- nothing is said; or a fault of the text, a refusal, the word that a query is too wide, the rows of its answer or of what is wanted
-- of it, counts, what was found for the watch at a place, the rows of an answer on the graph of the pin at a place, or what a tick
-- found of each watch
pub data Reply : Type 0 where
  Silent : Reply
  Bad : TextCode → Reply
  Refused : RuleCode → Reply
  Wide : Reply
  Rows : Answered → Reply
  Counted : List CountRow → Reply
  Shown : ℕ → Option Answered → Reply
  OfPin : ℕ → Answered → Reply
  PerWatch : List Ticked → Reply

-- the reply that a value of the code stands for, where a query text was asked
abbrev pub reply_of : Asked → Reply
reply_of (asked.Bad code) = Bad code
reply_of (asked.Refused rule) = Refused rule
reply_of asked.Wide = Wide
reply_of (asked.Rows answer) = Rows (answered answer)

-- the same of any line
abbrev pub line_reply : ReplyValue → Reply
line_reply value.Silent = Silent
line_reply (value.Bad code) = Bad code
line_reply (value.Refused rule) = Refused rule
line_reply value.Wide = Wide
line_reply (value.Rows answer) = Rows (answered answer)
line_reply (value.Counted counts) = Counted counts
line_reply (value.Shown place found) = Shown place (option_map answered found)
line_reply (value.OfPin place answer) = OfPin place (answered answer)
line_reply (value.PerWatch found) = PerWatch (map ticked_of found.items)

-- the reply to an edit: the first rule that it breaks, or nothing
abbrev pub edit_reply : Option RuleCode → ReplyValue
edit_reply None = value.Silent
edit_reply (Some rule) = value.Refused rule

-- the same where memory may run out
abbrev pub edit_said : {E : Type 0} → Result (Option RuleCode) E → Result ReplyValue E
edit_said (Ok broken) = Ok (edit_reply broken)
edit_said (Err error) = Err error

-- what is found for a query on the graph, with a limit of rows: that it is too wide, or its answer
abbrev pub IsFound : Graph → ℕ → QueryTerm → Reply → Type 0
IsFound g limit q Silent = ⊥
IsFound g limit q (Bad code) = ⊥
IsFound g limit q (Refused rule) = ⊥
IsFound g limit q Wide = IsTooWide g limit q
IsFound g limit q (Rows answer) = HasAnswer g limit q answer
IsFound g limit q (Counted counts) = ⊥
IsFound g limit q (Shown place found) = ⊥
IsFound g limit q (OfPin place answer) = ⊥
IsFound g limit q (PerWatch found) = ⊥

-- what is found for a query: its answer; or none, since it is too wide
abbrev pub FindsFor : Graph → ℕ → QueryTerm → Option Answered → Type 0
FindsFor g limit q None = IsTooWide g limit q
FindsFor g limit q (Some answer) = HasAnswer g limit q answer

-- what is found for a query from one object: that it is too wide near the object, or its rows from there
abbrev pub IsFoundNear : Graph → ℕ → QueryTerm → ℕ → Reply → Type 0
IsFoundNear g limit q o Wide = IsTooWideNear g limit q.path o
IsFoundNear g limit q o (Rows answer) = HasRowsFrom g limit q o answer
IsFoundNear g limit q o reply = ⊥

-- the reply to a query that is asked: the first rule that this breaks; where none is broken, what is found for it
abbrev pub IsReplyTo : Graph → ℕ → QueryTerm → Reply → Type 0
IsReplyTo g limit q (Refused rule) = FirstOf (QueryBreaks g q) ask_rules rule
IsReplyTo g limit q reply = NoneOf (QueryBreaks g q) ask_rules × IsFound g limit q reply

-- the reply to a query text: its first fault, or the reply to the query that it reads as
abbrev pub IsReply : Graph → ℕ → List ℕ → Reply → Type 0
IsReply g limit text (Bad code) = FaultOf text code
IsReply g limit text reply = (q : QueryTerm) × Reads text q × IsReplyTo g limit q reply

-- the reply to a question that is asked of the pin at a place: rows are those of the pin's graph
abbrev pub of_pin : ℕ → Reply → Reply
of_pin place (Rows answer) = OfPin place answer
of_pin place reply = reply

-- each object that the reply has rows of was declared
abbrev pub NamesDeclared : Graph → Reply → Type 0
NamesDeclared g (Rows answer) = AreDeclared (length g.objects) answer
NamesDeclared g reply = Unit {0}
