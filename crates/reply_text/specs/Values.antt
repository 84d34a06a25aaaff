-- The lines of JSON as values of serde_json: the members of each in the order in which they are written.
use Rattle.std.specs.Prelude.{◌<◌, ◌^◌, pos, negsuc, ℕ, ℤ, List, [], ◌∷◌, Option, Some, None, IsTrue, codes}
use Rattle.std.specs.List.{list_all}
use Rattle.itpg_base.specs.Graphs.{Graph, name_at}
use Rattle.script_lex.specs.Bytes.{is_word_byte}
use Rattle.band_normal.specs.declared.band.End.{End}
use Rattle.band_normal.specs.declared.band.End.TheVariants.{Fixed, Moving}
use Rattle.relation_rows.specs.declared.rows.Row.{Row}
use Rattle.relation_rows.specs.declared.times.OneRow.{OneRow}
use Rattle.arrivals.specs.declared.counts.CountRow.{CountRow}
use Rattle.serde_json.specs.Data.{Data, string, number, object, Members, no_members, member, put}
use Rattle.serde_json.specs.Find.{of_integer}

-- the name is of letters, digits and `_` alone, as each word is
abbrev pub HasWordBytes : List ℕ → Type 0
HasWordBytes name = IsTrue (list_all is_word_byte name)

-- a whole number
abbrev pub whole : ℤ → Data
whole z = number (of_integer z)

-- an object of one member
abbrev pub only : List ℕ → Data → Data
only key d = object (member key d no_members)

-- the end of a band
abbrev pub end_value : End → Data
end_value (Fixed n) = only (codes "fixed") (whole n)
end_value (Moving k) = only (codes "moving") (whole k)

-- an object and a span, and what follows
abbrev pub departures : Graph → ℕ → ℤ → ℤ → Members → Members
departures g o from to more = member (codes "id") (string (name_at g o)) (member (codes "from") (whole from) (member (codes "to") (whole to) more))

-- an object and the two ends of a band
abbrev pub arrivals : Graph → ℕ → End → End → Members
arrivals g o low high = member (codes "target") (string (name_at g o)) (member (codes "low") (end_value low) (member (codes "high") (end_value high) no_members))

-- a sign as the first member, if there is one
abbrev pub signed : Option ℕ → Members → Members
signed None ms = ms
signed (Some sign) ms = member (codes "sign") (string (sign ∷ [])) ms

-- a row of one time, perhaps with a sign
abbrev pub time_members : Graph → Option ℕ → OneRow → Members
time_members g sign r = signed sign (departures g r.object.0 r.span.from r.span.to no_members)

-- a row of two times, perhaps with a sign
abbrev pub pair_members : Graph → Option ℕ → Row → Members
pair_members g sign r = signed sign (departures g r.source.0 r.band.from r.band.to (arrivals g r.target.0 r.band.low r.band.high))

-- a row of counts
abbrev pub count_members : CountRow → Members
count_members r = member (codes "from") (whole r.span.from) (member (codes "to") (whole r.span.to) (member (codes "count") (whole (pos r.number)) no_members))

-- what is said of a line: its number, and one member more
abbrev pub line_members : ℕ → List ℕ → Data → Members
line_members n key d = member (codes "line") (whole (pos n)) (member key d no_members)

-- what is said of a watch
abbrev pub tick_members : List ℕ → Members → Members
tick_members name more = member (codes "tick") (string name) more

-- how many rows it gained and how many it lost
abbrev pub change_members : ℕ → ℕ → Members
change_members gained lost = member (codes "gained") (whole (pos gained)) (member (codes "lost") (whole (pos lost)) no_members)

-- the members go in one after another
abbrev pub puts : Members → Members → Members
puts no_members found = found
puts (member key d ms) found = puts ms (put key d found)

-- the members as serde_json keeps them: in the order of their names
abbrev pub kept : Members → Members
kept ms = puts ms no_members

-- a whole number of 64 bits with a sign
abbrev pub IsSmall : ℤ → Type 0
IsSmall (pos n) = n < 2 ^ 63
IsSmall (negsuc n) = n < 2 ^ 63

-- an end with such a number
abbrev pub IsSmallEnd : End → Type 0
IsSmallEnd (Fixed n) = IsSmall n
IsSmallEnd (Moving k) = IsSmall k
