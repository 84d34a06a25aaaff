-- What the three questions of a script ask.
use Rattle.std.specs.Prelude.{◌≡◌, ◌++◌, codes, true, false, ◌||◌, IsTrue, Some, None, Ok}
use Rattle.itpg_base.specs.Words.{Word}
use Rattle.edit_reader.specs.Readings as reading
use Rattle.edit_reader.specs.Lines.{LineOf}
use Rattle.path_ast.specs.Terms.{PathTerm, OfTest, Forward, Backward, Next, Sequence, Repetition, TestTerm, IsNode, HasLabel, HasValue, DoesExist, Condition, Conjunction, Negation, QueryTerm}
use Rattle.path_ast.specs.Sizes.{IsPathInRange}
use Rattle.match_parser.specs.Reading.{Reads}
use Rattle.trial_script.specs.Script.{Text, Asks, risk_line, contact_line, alone_line}

-- a node that exists
abbrev pub is_there : TestTerm
is_there = Conjunction IsNode DoesExist

-- and is a person
abbrev pub is_person : TestTerm
is_person = Conjunction is_there (HasLabel (codes "Person"))

-- one step, to where the object exists
abbrev pub to_there : PathTerm → PathTerm
to_there step = Sequence step (OfTest DoesExist)

-- and then only where the object has the label
abbrev pub through : PathTerm → Word → PathTerm
through path label = Sequence path (OfTest (HasLabel label))

-- whom one meets
abbrev pub to_met : PathTerm
to_met = Sequence (through (to_there Forward) (codes "meets")) (to_there Forward)

-- then and in the twelve moments after
abbrev pub to_met_lately : PathTerm
to_met_lately = Sequence to_met (Repetition (to_there Next) 0 (Some 12))

-- a room that one visits
abbrev pub to_room : PathTerm
to_room = through (Sequence (through (to_there Forward) (codes "visits")) (to_there Forward)) (codes "Room")

-- and who visits it
abbrev pub to_visitor : PathTerm
to_visitor = Sequence (through (Sequence to_room (to_there Backward)) (codes "visits")) (to_there Backward)

-- from where a test holds over a path to where another does
abbrev pub between : TestTerm → PathTerm → TestTerm → PathTerm
between first path last = Sequence (Sequence (OfTest first) path) (OfTest last)

-- the person has the value of the property
abbrev pub is_person_with : Word → Word → TestTerm
is_person_with property value = Conjunction is_person (HasValue property value)

-- whom did somebody of high risk meet, then and in the twelve moments after?
abbrev pub risk_query : QueryTerm
risk_query = record { first = true; last = true; path = between (is_person_with (codes "risk") (codes "high")) to_met_lately is_person; graph_name = None }

-- who was in a room together with somebody whose test was positive?
abbrev pub contact_query : QueryTerm
contact_query = record { first = true; last = true; path = between is_person to_visitor (is_person_with (codes "test") (codes "pos")); graph_name = None }

-- who met nobody?
abbrev pub alone_query : QueryTerm
alone_query = record {
  first = true;
  last = false;
  path = between is_person (OfTest (Negation (Condition (through (to_there Forward) (codes "meets"))))) is_there;
  graph_name = None;
}

-- the texts of the questions
abbrev pub risk_text : Text
risk_text = codes "MATCH (x:Person {risk = 'high'})-/FWD/:meets/FWD/NEXT[0,12]/-(y:Person)"

abbrev pub contact_text : Text
contact_text = codes "MATCH (x:Person)-/FWD/:visits/FWD/:Room/BWD/:visits/BWD/-(y:Person {test = 'pos'})"

abbrev pub alone_text : Text
alone_text = codes "MATCH (x:Person)-/{NOT ?(FWD/:meets)}/-()"

-- the line asks the text, which reads as the query; this is in range, asks for an end of its path, and is meant for any graph
pub record AsksQuery (line text : Text) (query : QueryTerm) : Type 0 where
  pub asks : Asks line text
  pub reads_line : LineOf line (Ok (reading.Asks (codes " " ++ text)))
  pub reads : Reads text query
  pub in_range : IsPathInRange query.path
  pub for_end : IsTrue (query.first || query.last)
  pub of_any : query.graph_name ≡ None

-- each of the three does
pub record EachQuestionReads : Type 0 where
  pub risk : AsksQuery risk_line risk_text risk_query
  pub contact : AsksQuery contact_line contact_text contact_query
  pub alone : AsksQuery alone_line alone_text alone_query
