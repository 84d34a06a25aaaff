-- The text of an answer, and of counts, in either form: a line for each row.
use Rattle.std.specs.Prelude.{ℕ, ◌<◌, ℤ, pos, List, [], ◌∷◌, ◌++◌, codes, if◌then◌else◌, int_lt, Option}
use Rattle.std.specs.Fmt.{decimal, signed_decimal}
use Rattle.itpg_base.specs.Graphs.{Graph, name_at}
use Rattle.band_normal.specs.declared.band.End.{End}
use Rattle.band_normal.specs.declared.band.End.TheVariants.{Fixed, Moving}
use Rattle.itpg_base.specs.Lists.{Among}
use Rattle.relation_rows.specs.declared.rows.Row.{Row}
use Rattle.relation_rows.specs.declared.times.OneRow.{OneRow}
use Rattle.relation_rows.specs.Answered.{Answered, pairs, times}
use Rattle.arrivals.specs.declared.counts.CountRow.{CountRow}
use Rattle.row_printer.specs.declared.form.Form.{Form}
use Rattle.row_printer.specs.declared.form.Form.TheVariants.{Plain, Json}
use Rattle.row_printer.specs.JsonTexts.{json_time, json_pair, json_count, json_lead}

-- `A..B`
unfoldable pub span_text : ℤ → ℤ → List ℕ
span_text from to = signed_decimal from ++ codes ".." ++ signed_decimal to

-- `t`, `t+K` or `t-K`: so many moments after the departure, or before it
unfoldable pub moving_text : ℤ → List ℕ
moving_text k = codes "t" ++ (if int_lt (pos 0) k then codes "+" ++ signed_decimal k else if int_lt k (pos 0) then signed_decimal k else [])

-- an end that stays is its moment
unfoldable pub end_text : End → List ℕ
end_text (Fixed n) = signed_decimal n
end_text (Moving k) = moving_text k

-- `LOW..HIGH`
unfoldable pub ends_text : End → End → List ℕ
ends_text low high = end_text low ++ codes ".." ++ end_text high

-- `ID A..B`
unfoldable pub departures_text : Graph → ℕ → ℤ → ℤ → List ℕ
departures_text g o from to = name_at g o ++ codes " " ++ span_text from to

-- `ID LOW..HIGH`
unfoldable pub arrivals_text : Graph → ℕ → End → End → List ℕ
arrivals_text g o low high = name_at g o ++ codes " " ++ ends_text low high

-- `ID A..B`, and the line's end
unfoldable pub time_text : Graph → OneRow → List ℕ
time_text g r = departures_text g r.object.0 r.span.from r.span.to ++ codes "\n"

-- `ID A..B ID LOW..HIGH`, and the line's end
unfoldable pub pair_text : Graph → Row → List ℕ
pair_text g r = departures_text g r.source.0 r.band.from r.band.to ++ codes " " ++ arrivals_text g r.target.0 r.band.low r.band.high ++ codes "\n"

-- `A..B C`, and the line's end
unfoldable pub count_text : CountRow → List ℕ
count_text r = span_text r.span.from r.span.to ++ codes " " ++ decimal r.number ++ codes "\n"

-- the texts of all, one behind the other, each after its lead
unfoldable pub led : {X : Type 0} → List ℕ → (X → List ℕ) → List X → List ℕ
led lead text [] = []
led lead text (x ∷ xs) = (lead ++ text x) ++ led lead text xs

-- a row of one time in either form, behind its lead
abbrev pub time_in : Form → Graph → OneRow → List ℕ
time_in Plain = time_text
time_in Json = json_time

-- a row of two times in either form, behind its lead
abbrev pub pair_in : Form → Graph → Row → List ℕ
pair_in Plain = pair_text
pair_in Json = json_pair

-- a row of counts in either form
abbrev pub count_in : Form → CountRow → List ℕ
count_in Plain = count_text
count_in Json = json_count

-- a line in either form for each row of the answer, each after its lead
abbrev pub answer_in : Form → Graph → List ℕ → Answered → List ℕ
answer_in form g lead (pairs rows) = led lead (pair_in form g) rows
answer_in form g lead (times rows) = led lead (time_in form g) rows

-- a line for each row of the answer, each after its lead
abbrev pub answer_text : Graph → List ℕ → Answered → List ℕ
answer_text g lead answer = answer_in Plain g lead answer

-- an object for each row of the answer, each with the sign, if there is one
abbrev pub json_text : Graph → Option ℕ → Answered → List ℕ
json_text g sign answer = answer_in Json g (json_lead sign) answer

-- a line for each row of the counts
abbrev pub counts_text : List CountRow → List ℕ
counts_text rows = led [] (count_in Plain) rows

-- an object for each row of the counts
abbrev pub json_counts_text : List CountRow → List ℕ
json_counts_text rows = led [] (count_in Json) rows

-- each object of the answer was declared in the graph: it is one of the first so many numbers
abbrev pub AreDeclared : ℕ → Answered → Type 0
AreDeclared count (pairs rows) = (r : Row) → Among rows r → (r.source.0 < count) × (r.target.0 < count)
AreDeclared count (times rows) = (r : OneRow) → Among rows r → r.object.0 < count
