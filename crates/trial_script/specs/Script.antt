-- The lines of the script that a number generates.
use Rattle.std.specs.Prelude.{◌≡◌, ℕ, zero, suc, ◌+◌, ◌*◌, Bool, List, [], ◌∷◌, ◌++◌, codes, nat_eq, nat_lt, if◌then◌else◌}
use Rattle.std.specs.Fmt.{decimal}
use Rattle.std.specs.List.{flat_map, range_with_len}
use Rattle.trial_script.specs.Draws.{after, draw}

-- a line, as its bytes without the end
abbrev pub Text : Type 0
Text = List ℕ

-- the name of a node
unfoldable pub node_name : ℕ → Text
node_name i = codes "n" ++ decimal i

-- the name of an edge
unfoldable pub edge_name : ℕ → Text
edge_name i = codes "e" ++ decimal i

-- words with a space between
abbrev pub spaced : List Text → Text
spaced [] = []
spaced (word ∷ []) = word
spaced (word ∷ next ∷ rest) = word ++ (codes " " ++ spaced (next ∷ rest))

unfoldable pub graph_line : Text
graph_line = codes "graph trial 0 9999"

-- the first 150 nodes are persons, the others rooms
unfoldable pub node_line : ℕ → Text
node_line i = spaced (codes "node" ∷ node_name i ∷ (if nat_lt i 150 then codes "Person" else codes "Room") ∷ [])

-- something lives from a moment to another
unfoldable pub live_line : Text → ℕ → ℕ → Text
live_line name from to = spaced (codes "live" ∷ name ∷ decimal from ∷ decimal to ∷ [])

-- an edge meets its target or visits it
unfoldable pub edge_line : ℕ → Bool → ℕ → ℕ → Text
edge_line i meets source target =
    spaced (codes "edge" ∷ edge_name i ∷ (if meets then codes "meets" else codes "visits") ∷ node_name source ∷ node_name target ∷ [])

-- a person is of high risk
unfoldable pub high_line : ℕ → ℕ → ℕ → Text
high_line i from to = spaced (codes "set" ∷ node_name i ∷ codes "risk" ∷ codes "'high'" ∷ decimal from ∷ decimal to ∷ [])

-- a person's test is positive
unfoldable pub positive_line : ℕ → ℕ → ℕ → Text
positive_line i from to = spaced (codes "set" ∷ node_name i ∷ codes "test" ∷ codes "'pos'" ∷ decimal from ∷ decimal to ∷ [])

-- the two lines of an edge, by what is drawn for it; a kind of 0 is a meeting
unfoldable pub edge_pair : ℕ → ℕ → ℕ → ℕ → ℕ → ℕ → List Text
edge_pair i source target kind from more =
    edge_line i (nat_eq kind 0) source target ∷ live_line (edge_name i) from (from + more) ∷ []

-- the two lines of an edge: five draws belong to it
unfoldable pub edge_lines : ℕ → ℕ → List Text
edge_lines number i =
    let first = 5 * i in
    edge_pair i (draw number first 200) (draw number (first + 1) 200) (draw number (first + 2) 2) (draw number (first + 3) 9900) (draw number (first + 4) 100)

-- the line of a person, if there is one: the first draw from the state x on says what it sets, the second from when on
unfoldable pub sign_lines : ℕ → ℕ → List Text
sign_lines i x =
    let from = draw x 1 9000 in
    if nat_eq (draw x 0 4) 0 then high_line i from (from + 999) ∷ []
    else if nat_eq (draw x 0 4) 1 then positive_line i from (from + 99) ∷ [] else []

-- the state after a person: where no line is written, there is no second draw
unfoldable pub after_sign : ℕ → ℕ
after_sign x = if nat_lt (draw x 0 4) 2 then after x 2 else after x 1

-- the lines of so many persons from one on, where the draws begin at the state x
unfoldable pub signs : ℕ → ℕ → ℕ → List Text
signs zero i x = []
signs (suc count) i x = sign_lines i x ++ signs count (i + 1) (after_sign x)

-- whom did somebody of high risk meet, then and in the twelve moments after?
unfoldable pub risk_line : Text
risk_line = codes "ask MATCH (x:Person {risk = 'high'})-/FWD/:meets/FWD/NEXT[0,12]/-(y:Person)"

-- who was in a room together with somebody whose test was positive?
unfoldable pub contact_line : Text
contact_line = codes "ask MATCH (x:Person)-/FWD/:visits/FWD/:Room/BWD/:visits/BWD/-(y:Person {test = 'pos'})"

-- who met nobody?
unfoldable pub alone_line : Text
alone_line = codes "ask MATCH (x:Person)-/{NOT ?(FWD/:meets)}/-()"

-- the three questions
unfoldable pub ask_lines : List Text
ask_lines = risk_line ∷ contact_line ∷ alone_line ∷ []

-- the lines of each of so many things, from one on, in order
unfoldable pub each : (ℕ → List Text) → ℕ → ℕ → List Text
each lines from count = flat_map lines (range_with_len from count)

-- the edits of a number: a graph, 200 nodes, their lives, 2,000 edges with their lives, and what is set of 150 persons
unfoldable pub edits : ℕ → List Text
edits number =
    graph_line
    ∷ each (λ i. node_line i ∷ []) 0 200
    ++ each (λ i. live_line (node_name i) 0 9999 ∷ []) 0 200
    ++ each (edge_lines number) 0 2000
    ++ signs 150 0 (after number 10000)

-- the script of a number: its edits, then three questions
unfoldable pub script : ℕ → List Text
script number = edits number ++ ask_lines

-- the line asks a query text
abbrev pub Asks : Text → Text → Type 0
Asks line query = line ≡ codes "ask " ++ query

-- no line of the list asks anything
abbrev pub AskNothing : List Text → Type 0
AskNothing [] = Unit {0}
AskNothing (line ∷ rest) = ((query : Text) → ¬ Asks line query) × AskNothing rest
