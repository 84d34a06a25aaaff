-- The words that have a meaning of their own, and the numbers without a sign.
use Rattle.std.specs.Prelude.{◌≡◌, ℕ, List, codes, nat_eq, slice_index, Bool}
use Rattle.match_parser.specs.declared.words.Keyword.{Keyword}
use Rattle.match_parser.specs.declared.words.Keyword.TheVariants.{Not, And, Or, Node, Edge, Exists, Time}
use Rattle.match_parser.specs.declared.words.Axis.{Axis}
use Rattle.match_parser.specs.declared.words.Axis.TheVariants.{Fwd, Bwd, Next, Prev, F, B, N, P}

-- how each keyword of tests is written
abbrev pub keyword_text : Keyword → List ℕ
keyword_text Not = codes "NOT"
keyword_text And = codes "AND"
keyword_text Or = codes "OR"
keyword_text Node = codes "NODE"
keyword_text Edge = codes "EDGE"
keyword_text Exists = codes "EXISTS"
keyword_text Time = codes "time"

-- how each step of a path is written
abbrev pub axis_text : Axis → List ℕ
axis_text Fwd = codes "FWD"
axis_text Bwd = codes "BWD"
axis_text Next = codes "NEXT"
axis_text Prev = codes "PREV"
axis_text F = codes "F"
axis_text B = codes "B"
axis_text N = codes "N"
axis_text P = codes "P"

-- the words that begin a query, and that come before the name of its graph
abbrev pub match_text : List ℕ
match_text = codes "MATCH"

abbrev pub on_text : List ℕ
on_text = codes "ON"

-- a property that can be tested has the name of no keyword
abbrev pub IsProperty : List ℕ → Type 0
IsProperty word = (k : Keyword) → word ≡ keyword_text k → ⊥

-- a `-` stands before the digits of the number
abbrev pub is_signed : List ℕ → Bool
is_signed number = nat_eq (slice_index number 0) 45
