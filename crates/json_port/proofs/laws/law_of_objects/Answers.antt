use Rattle.std.proofs.Common.{refl, codes, Ok, [], ◌∷◌}
use Rattle.std.specs.Prelude.{pos, neg_ℤ}
use Rattle.itpg_edit.specs.declared.edit.Edit.TheVariants as edits
use Rattle.json_port.specs.declared.line.JsonLine.{JsonLine}
use Rattle.serde_json.proofs.OnLiterals.{serde_json_on_literals}
use Rattle.json_port.specs.Objects.{op_of}
use Rattle.json_port.proofs.Examples.{before_zero, twenty, zero_moment, line_of}
use Rattle.json_port.proofs.laws.law_of_objects.Goals as goal

pub returns-clause-blank : goal.returns-clause-blank
unfolding serde_json_on_literals op_of
returns-clause-blank c = refl

pub returns-clause-graph : goal.returns-clause-graph
unfolding serde_json_on_literals op_of
returns-clause-graph c = line_of (codes "{\"op\":\"graph\",\"name\":\"g\",\"lo\":-3,\"hi\":20}") (Ok (JsonLine.Edit (edits.Begin (codes "g") (neg_ℤ (pos 3)) (pos 20)))) refl refl refl ((before_zero, twenty), refl, refl)

pub returns-clause-extend : goal.returns-clause-extend
unfolding serde_json_on_literals op_of
returns-clause-extend c = line_of (codes "{\"op\":\"extend\",\"lo\":-3,\"hi\":20}") (Ok (JsonLine.Edit (edits.Extend (neg_ℤ (pos 3)) (pos 20)))) refl refl refl ((before_zero, twenty), refl, refl)

pub returns-clause-node : goal.returns-clause-node
unfolding serde_json_on_literals op_of
returns-clause-node c = line_of (codes "{\"op\":\"node\",\"id\":\"a\",\"labels\":[\"T\",\"S\",\"T\"]}") (Ok (JsonLine.Edit (edits.AddNode (codes "a") (codes "S" ∷ codes "T" ∷ [])))) refl refl refl (tt, refl, refl)

pub returns-clause-edge : goal.returns-clause-edge
unfolding serde_json_on_literals op_of
returns-clause-edge c = line_of (codes "{\"op\":\"edge\",\"id\":\"e\",\"labels\":[\"T\"],\"source\":\"a\",\"target\":\"b\"}") (Ok (JsonLine.Edit (edits.AddEdge (codes "e") (codes "T" ∷ []) (codes "a") (codes "b")))) refl refl refl (tt, refl, refl)

pub returns-clause-eight_labels : goal.returns-clause-eight_labels
unfolding serde_json_on_literals op_of
returns-clause-eight_labels c = line_of (codes "{\"op\":\"node\",\"id\":\"a\",\"labels\":[\"T\",\"T\",\"T\",\"T\",\"T\",\"T\",\"T\",\"T\"]}") (Ok (JsonLine.Edit (edits.AddNode (codes "a") (codes "T" ∷ [])))) refl refl refl (tt, refl, refl)

pub returns-clause-live : goal.returns-clause-live
unfolding serde_json_on_literals op_of
returns-clause-live c = line_of (codes "{\"op\":\"live\",\"id\":\"a\",\"from\":0,\"to\":20}") (Ok (JsonLine.Edit (edits.Live (codes "a") (pos 0) (pos 20)))) refl refl refl ((zero_moment, twenty), refl, refl)

pub returns-clause-gone_in_any_order : goal.returns-clause-gone_in_any_order
unfolding serde_json_on_literals op_of
returns-clause-gone_in_any_order c = line_of (codes " {\"to\":20 ,\"id\":\"a\",\r\"from\":-3,\"op\":\"gone\"}\r") (Ok (JsonLine.Edit (edits.Gone (codes "a") (neg_ℤ (pos 3)) (pos 20)))) refl refl refl ((before_zero, twenty), refl, refl)

pub returns-clause-set : goal.returns-clause-set
unfolding serde_json_on_literals op_of
returns-clause-set c = line_of (codes "{\"op\":\"set\",\"id\":\"a\",\"prop\":\"p\",\"value\":\"in use\",\"from\":0,\"to\":20}") (Ok (JsonLine.Edit (edits.Put (codes "a") (codes "p") (codes "in use") (pos 0) (pos 20)))) refl refl refl ((zero_moment, twenty), refl, refl)

pub returns-clause-unset : goal.returns-clause-unset
unfolding serde_json_on_literals op_of
returns-clause-unset c = line_of (codes "{\"op\":\"unset\",\"id\":\"a\",\"prop\":\"p\",\"from\":0,\"to\":20}") (Ok (JsonLine.Edit (edits.Clear (codes "a") (codes "p") (pos 0) (pos 20)))) refl refl refl ((zero_moment, twenty), refl, refl)

pub returns-clause-escape : goal.returns-clause-escape
unfolding serde_json_on_literals op_of
returns-clause-escape c = line_of (codes "{\"op\":\"drop\",\"id\":\"\\u0061\"}") (Ok (JsonLine.Edit (edits.Remove (codes "a")))) refl refl refl (tt, refl, refl)

pub returns-clause-last_holds : goal.returns-clause-last_holds
unfolding serde_json_on_literals op_of
returns-clause-last_holds c = line_of (codes "{\"op\":\"drop\",\"id\":\"a\",\"id\":\"b\"}") (Ok (JsonLine.Edit (edits.Remove (codes "b")))) refl refl refl (tt, refl, refl)

pub returns-clause-replaced_is_no_name : goal.returns-clause-replaced_is_no_name
unfolding serde_json_on_literals op_of
returns-clause-replaced_is_no_name c = line_of (codes "{\"op\":\"drop\",\"id\":7,\"id\":\"b\"}") (Ok (JsonLine.Edit (edits.Remove (codes "b")))) refl refl refl (tt, refl, refl)

pub returns-clause-text : goal.returns-clause-text
unfolding serde_json_on_literals op_of
returns-clause-text c = line_of (codes "{\"op\":\"text\",\"line\":\"show w\\r\"}") (Ok (JsonLine.Text (codes "show w\r"))) refl refl refl refl

pub returns-clause-text_of_a_bad_line : goal.returns-clause-text_of_a_bad_line
unfolding serde_json_on_literals op_of
returns-clause-text_of_a_bad_line c = line_of (codes "{\"op\":\"text\",\"line\":\"live a\"}") (Ok (JsonLine.Text (codes "live a"))) refl refl refl refl
