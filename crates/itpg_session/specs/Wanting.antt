-- The reply to a line that wants the first arrivals, the last departures or the counts of a query text.
use Rattle.std.specs.Prelude.{◌≡◌, ◌⊎◌, ◌&&◌, not, Bool, true, false, ℕ, ◌<◌, ◌≤◌, List, length, Option, Some, None}
use Rattle.itpg_base.specs.Graphs.{Graph}
use Rattle.itpg_base.specs.declared.rule_code.RuleCode.{RuleCode}
use Rattle.itpg_base.specs.declared.text_code.TextCode.{TextCode}
use Rattle.itpg_base.specs.declared.text_code.TextCode.TheVariants.{Names}
use Rattle.itpg_edit.specs.Rules.{FirstOf, NoneOf}
use Rattle.edit_reader.specs.declared.line.Wanted.{Wanted}
use Rattle.edit_reader.specs.declared.line.Wanted.TheVariants.{First, Last, Count}
use Rattle.path_ast.specs.Terms.{QueryTerm}
use Rattle.path_ast.specs.Meaning.{Rel}
use Rattle.match_parser.specs.Reading.{Reads, FaultOf}
use Rattle.relation_rows.specs.declared.rows.Row.{Row}
use Rattle.relation_rows.specs.declared.times.OneRow.{OneRow}
use Rattle.relation_rows.specs.Rows.{NormalRows}
use Rattle.relation_rows.specs.Times.{TimesHold}
use Rattle.relation_rows.specs.Answered.{Answered, pairs, times, row_number}
use Rattle.path_eval.specs.Answering.{AnswersQuery}
use Rattle.arrivals.specs.declared.counts.CountRow.{CountRow}
use Rattle.arrivals.specs.Firsts.{Least, Latest}
use Rattle.arrivals.specs.Counting.{AreCounts}
use Rattle.itpg_session.specs.Questions.{IsTooWide, HasAnswer}
use Rattle.itpg_session.specs.Rules.{QueryBreaks, ask_rules}
use Rattle.itpg_session.specs.Replies.{Reply, Bad, Refused, Wide, Rows, Counted}

-- what comes of it: rows of two times, or counts
pub data Outcome : Type 0 where
  Chosen : List Row → Outcome
  Counts : List CountRow → Outcome

-- how many rows, or how many counts
abbrev pub outcome_number : Outcome → ℕ
outcome_number (Chosen rows) = length rows
outcome_number (Counts counts) = length counts

-- the query names the ends that are wanted: both for arrivals and departures, and one for counts
abbrev pub has_ends : Wanted → QueryTerm → Bool
has_ends First q = q.first && q.last
has_ends Last q = q.first && q.last
has_ends Count q = not (q.first && q.last)

-- the counts of an answer of one time: at each moment as many objects as have a row there
abbrev pub AreAnswerCounts : Graph → QueryTerm → List CountRow → Type 0
AreAnswerCounts g q counts = (rows : List OneRow) × AnswersQuery g q (times rows) × AreCounts (TimesHold rows) counts

-- this comes of the query on the graph: the normal rows of its path's first arrivals or last departures, or its answer's counts
abbrev pub IsOutcome : Graph → Wanted → QueryTerm → Outcome → Type 0
IsOutcome g First q (Chosen rows) = NormalRows (Least (Rel q.path g)) rows
IsOutcome g First q (Counts counts) = ⊥
IsOutcome g Last q (Chosen rows) = NormalRows (Latest (Rel q.path g)) rows
IsOutcome g Last q (Counts counts) = ⊥
IsOutcome g Count q (Chosen rows) = ⊥
IsOutcome g Count q (Counts counts) = AreAnswerCounts g q counts

-- something comes of it that has more rows than the limit
abbrev pub IsOutcomeWide : Graph → ℕ → Wanted → QueryTerm → Type 0
IsOutcomeWide g limit wanted q = (all : Outcome) × IsOutcome g wanted q all × (limit < outcome_number all)

-- what is found for it: none, if the query or what comes of it is too wide; or else what comes of it
abbrev pub FindsWanted : Graph → ℕ → Wanted → QueryTerm → Option Outcome → Type 0
FindsWanted g limit wanted q None = IsTooWide g limit q ⊎ IsOutcomeWide g limit wanted q
FindsWanted g limit wanted q (Some all) = (¬ IsTooWide g limit q) × IsOutcome g wanted q all × (outcome_number all ≤ limit)

-- the reply that tells what was found
abbrev pub reply_with : Option Outcome → Reply
reply_with None = Wide
reply_with (Some (Chosen rows)) = Rows (pairs rows)
reply_with (Some (Counts counts)) = Counted counts

-- the query names other ends: that is the fault of its names
abbrev pub HasOtherEnds : Wanted → QueryTerm → Reply → Type 0
HasOtherEnds wanted q reply = (has_ends wanted q ≡ false) × (reply ≡ Bad Names)

-- it is refused by the first rule that asking it breaks
pub record RefusesWanted (g : Graph) (q : QueryTerm) (reply : Reply) : Type 0 where
  pub rule : RuleCode
  pub first : FirstOf (QueryBreaks g q) ask_rules rule
  pub is : reply ≡ Refused rule

-- it breaks no rule, and what is found for it is told
pub record TellsWanted (g : Graph) (limit : ℕ) (wanted : Wanted) (q : QueryTerm) (reply : Reply) : Type 0 where
  pub unbroken : NoneOf (QueryBreaks g q) ask_rules
  pub found : Option Outcome
  pub finds : FindsWanted g limit wanted q found
  pub is : reply ≡ reply_with found

-- the reply to a query of which this is wanted: its names are at fault; or it is refused, or what is found is told
abbrev pub IsReplyWantedOf : Graph → ℕ → Wanted → QueryTerm → Reply → Type 0
IsReplyWantedOf g limit wanted q reply = HasOtherEnds wanted q reply ⊎ ((has_ends wanted q ≡ true) × (RefusesWanted g q reply ⊎ TellsWanted g limit wanted q reply))

-- the reply to a query text of which this is wanted: the text's first fault; or the reply to the query that it reads as
abbrev pub IsReplyWanted : Graph → ℕ → Wanted → List ℕ → Reply → Type 0
IsReplyWanted g limit wanted text reply =
    ((code : TextCode) × FaultOf text code × (reply ≡ Bad code)) ⊎ ((q : QueryTerm) × Reads text q × IsReplyWantedOf g limit wanted q reply)

-- an answer of the code has rows of these ends
abbrev pub SuitsWanted : Wanted → Answered → Type 0
SuitsWanted First (pairs rows) = Unit {0}
SuitsWanted First (times rows) = ⊥
SuitsWanted Last (pairs rows) = Unit {0}
SuitsWanted Last (times rows) = ⊥
SuitsWanted Count (pairs rows) = ⊥
SuitsWanted Count (times rows) = Unit {0}

-- of a query that names the ends that are wanted and has this answer, on whatever graph, the reply tells what is found
abbrev pub TellsFound : Wanted → Answered → ℕ → Reply → Type 0
TellsFound wanted answer limit reply = (g : Graph) (q : QueryTerm) → has_ends wanted q ≡ true → HasAnswer g limit q answer
    → (found : Option Outcome) × FindsWanted g limit wanted q found × (reply ≡ reply_with found)

-- the answer that the reply has rows of has at most so many
abbrev pub HasFewRows : ℕ → Reply → Type 0
HasFewRows limit (Rows answer) = row_number answer ≤ limit
HasFewRows limit reply = Unit {0}
