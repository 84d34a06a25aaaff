-- What is left of a script at a place of it, where the draws to come begin at the state x.
use Rattle.std.specs.Prelude.{ℕ, zero, suc, ◌+◌, ◌-◌, ◌≤◌, ◌<◌, List, [], ◌∷◌, ◌++◌}
use Rattle.trial_script.specs.Draws.{after, draw}
use Rattle.trial_script.specs.Script.{Text, node_name, edge_name, graph_line, node_line, live_line, edge_line, edge_pair, high_line, positive_line, signs, ask_lines, risk_line, contact_line, alone_line, each}
use Rattle.trial_script.specs.declared.line.Question.{Question}
use Rattle.trial_script.specs.declared.line.Question.TheVariants.{AtRisk, InContact, Alone}
use Rattle.trial_script.specs.declared.line.Line.{Line}
use Rattle.trial_script.specs.declared.line.Line.TheVariants as line
use Rattle.trial_script.specs.declared.place.Place.{Place}
use Rattle.trial_script.specs.declared.place.Place.TheVariants as place

-- the line that asks a question
abbrev pub question_line : Question → Text
question_line AtRisk = risk_line
question_line InContact = contact_line
question_line Alone = alone_line

-- the text of a line
abbrev pub line_text : Line → Text
line_text line.Graph = graph_line
line_text (line.Node i) = node_line i
line_text (line.NodeLife i) = live_line (node_name i) 0 9999
line_text (line.Edge e) = edge_line e.number e.meets e.source e.target
line_text (line.EdgeLife e) = live_line (edge_name e.number) e.from e.to
line_text (line.High i from to) = high_line i from to
line_text (line.Positive i from to) = positive_line i from to
line_text (line.Ask q) = question_line q

-- from a person on
unfoldable pub left_persons : ℕ → ℕ → List Text
left_persons i x = signs (150 - i) i x ++ ask_lines

-- the edges from one on, so many, and what follows
unfoldable pub edges : ℕ → ℕ → ℕ → List Text
edges zero i x = left_persons 0 x
edges (suc count) i x = edge_pair i (draw x 0 200) (draw x 1 200) (draw x 2 2) (draw x 3 9900) (draw x 4 100) ++ edges count (i + 1) (after x 5)

-- from an edge on
unfoldable pub left_edges : ℕ → ℕ → List Text
left_edges i x = edges (2000 - i) i x

-- from the life of a node on
unfoldable pub left_lives : ℕ → ℕ → List Text
left_lives i x = each (λ k. live_line (node_name k) 0 9999 ∷ []) i (200 - i) ++ left_edges 0 x

-- from a node on
unfoldable pub left_nodes : ℕ → ℕ → List Text
left_nodes i x = each (λ k. node_line k ∷ []) i (200 - i) ++ left_lives 0 x

-- from a question on
abbrev pub left_asks : Question → List Text
left_asks AtRisk = risk_line ∷ contact_line ∷ alone_line ∷ []
left_asks InContact = contact_line ∷ alone_line ∷ []
left_asks Alone = alone_line ∷ []

-- what is left at a place
abbrev pub left : ℕ → Place → List Text
left x place.Graph = graph_line ∷ left_nodes 0 x
left x (place.Node i) = left_nodes i x
left x (place.NodeLife i) = left_lives i x
left x (place.Edge i) = left_edges i x
left x (place.EdgeLife e) = live_line (edge_name e.number) e.from e.to ∷ left_edges (e.number + 1) x
left x (place.Person i) = left_persons i x
left x (place.Ask q) = left_asks q
left x place.End = []

-- the number of a place stands for a thing of the script
abbrev pub IsPlace : Place → Type 0
IsPlace place.Graph = Unit {0}
IsPlace (place.Node i) = i < 200
IsPlace (place.NodeLife i) = i < 200
IsPlace (place.Edge i) = i < 2000
IsPlace (place.EdgeLife e) = e.number < 2000
IsPlace (place.Person i) = i ≤ 150
IsPlace (place.Ask q) = Unit {0}
IsPlace place.End = Unit {0}
