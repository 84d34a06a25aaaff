-- The text of a hint: one line, what is so and then what to write instead.
use Rattle.std.specs.Prelude.{ℕ, List, ◌++◌, codes}
use Rattle.std.specs.Fmt.{signed_decimal}
use Rattle.question_hints.specs.declared.hint.Hint.{Hint}
use Rattle.question_hints.specs.declared.hint.Hint.TheVariants.{NoLabel, NoProperty, NoValue, EdgeInRound, EndsOnEdge, SelectiveEndLast}
use Rattle.question_hints.specs.declared.horizon.Lives.{Lives}

abbrev pub no_label_text : List ℕ → List ℕ
no_label_text label = codes "no object has the label " ++ label ++ codes "; upper and lower case differ"

abbrev pub no_property_text : List ℕ → List ℕ
no_property_text prop = codes "no object ever has a value of " ++ prop ++ codes "; upper and lower case differ"

abbrev pub no_value_text : List ℕ → List ℕ → List ℕ
no_value_text prop value = codes "the property " ++ prop ++ codes " has values, but never '" ++ value ++ codes "'; upper and lower case differ"

abbrev pub edge_in_round_text : List ℕ → List ℕ
edge_in_round_text label = codes "only edges have the label " ++ label ++ codes ", and a node is asked for; write (x)-/FWD/:" ++ label ++ codes "/FWD/-(y)"

abbrev pub ends_on_edge_text : List ℕ
ends_on_edge_text = codes "the path can't end where it is asked to: a step FWD, BWD, F or B leads from a node to an edge, or from an edge to a node; write FWD/FWD to come to a node"

abbrev pub selective_end_last_text : List ℕ
selective_end_last_text = codes "the path can start at every object, but only its end has a label; write it from that end, with BWD for FWD and PREV for NEXT"

abbrev pub text_of_hint : Hint → List ℕ
text_of_hint (NoLabel label) = no_label_text label
text_of_hint (NoProperty prop) = no_property_text prop
text_of_hint (NoValue prop value) = no_value_text prop value
text_of_hint (EdgeInRound label) = edge_in_round_text label
text_of_hint EndsOnEdge = ends_on_edge_text
text_of_hint SelectiveEndLast = selective_end_last_text

-- the first and the last moment with a text between
abbrev pub ends_text : Lives → List ℕ → List ℕ
ends_text lives between = signed_decimal lives.first ++ between ++ signed_decimal lives.last

-- the hint that no object exists before or after these moments
abbrev pub unreached_text : Lives → List ℕ
unreached_text lives =
    codes "no object exists before " ++ ends_text lives (codes " or after ")
    ++ codes ", where the path can pass time; begin the graph with the horizon " ++ ends_text lives (codes " ")
