use Rattle.std.proofs.Common.{refl, codes, Ok, Err}
use Rattle.std.specs.Prelude.{pos}
use Rattle.itpg_base.specs.declared.text_code.TextCode.{TextCode}
use Rattle.itpg_edit.specs.declared.edit.Edit.TheVariants as edits
use Rattle.json_port.specs.declared.line.JsonLine.{JsonLine}
use Rattle.serde_json.proofs.OnLiterals.{serde_json_on_literals}
use Rattle.json_port.specs.Objects.{op_of}
use Rattle.json_port.proofs.Examples.{farthest, last_moment, too_early, too_late, twenty, zero_moment, line_of}
use Rattle.json_port.proofs.OneLine.{too_long}
use Rattle.json_port.proofs.laws.law_of_codes.Goals as goal

pub returns-clause-greatest : goal.returns-clause-greatest
unfolding serde_json_on_literals op_of
returns-clause-greatest c = line_of (codes "{\"op\":\"extend\",\"lo\":0,\"hi\":1000000000000}") (Ok (JsonLine.Edit (edits.Extend (pos 0) (pos 1000000000000)))) refl refl refl ((zero_moment, last_moment), refl, refl)

pub returns-clause-far : goal.returns-clause-far
unfolding serde_json_on_literals op_of
returns-clause-far c = line_of (codes "{\"op\":\"live\",\"id\":\"a\",\"from\":0,\"to\":1000000000001}") (Err TextCode.Number) refl refl refl (λ near. too_late near.1)

pub returns-clause-far_below_zero : goal.returns-clause-far_below_zero
unfolding serde_json_on_literals op_of
returns-clause-far_below_zero c = line_of (codes "{\"op\":\"extend\",\"lo\":-1000000000001,\"hi\":0}") (Err TextCode.Number) refl refl refl (λ near. too_early near.0)

pub returns-clause-farthest : goal.returns-clause-farthest
unfolding serde_json_on_literals op_of
returns-clause-farthest c = line_of (codes "{\"op\":\"extend\",\"lo\":0,\"hi\":9223372036854775807}") (Err TextCode.Number) refl refl refl (λ near. farthest near.1)

pub returns-clause-long_name : goal.returns-clause-long_name
unfolding serde_json_on_literals op_of
returns-clause-long_name c = line_of (codes "{\"op\":\"drop\",\"id\":\"aaaaaaaaaaaaaaaaaaaaaaaaaaaaaaaaaaaaaaaaaaaaaaaaaaaaaaaaaaaaaaaaa\"}") (Err TextCode.Name) refl refl refl (tt, refl)

pub returns-clause-long_label : goal.returns-clause-long_label
unfolding serde_json_on_literals op_of
returns-clause-long_label c = line_of (codes "{\"op\":\"node\",\"id\":\"a\",\"labels\":[\"aaaaaaaaaaaaaaaaaaaaaaaaaaaaaaaaaaaaaaaaaaaaaaaaaaaaaaaaaaaaaaaaa\"]}") (Err TextCode.Name) refl refl refl (tt, refl)

pub returns-clause-long_value : goal.returns-clause-long_value
unfolding serde_json_on_literals op_of
returns-clause-long_value c = line_of (codes "{\"op\":\"set\",\"id\":\"a\",\"prop\":\"p\",\"value\":\"aaaaaaaaaaaaaaaaaaaaaaaaaaaaaaaaaaaaaaaaaaaaaaaaaaaaaaaaaaaaaaaaa\",\"from\":0,\"to\":20}") (Err TextCode.Name) refl refl refl ((zero_moment, twenty), refl)

pub returns-clause-number_before_name : goal.returns-clause-number_before_name
unfolding serde_json_on_literals op_of
returns-clause-number_before_name c = line_of (codes "{\"op\":\"live\",\"id\":\"aaaaaaaaaaaaaaaaaaaaaaaaaaaaaaaaaaaaaaaaaaaaaaaaaaaaaaaaaaaaaaaaa\",\"from\":0,\"to\":1000000000001}") (Err TextCode.Number) refl refl refl (λ near. too_late near.1)

pub returns-clause-text_before_number : goal.returns-clause-text_before_number
unfolding serde_json_on_literals op_of
returns-clause-text_before_number c = line_of (codes "{\"op\":\"live\",\"id\":\"1a\",\"from\":0,\"to\":1000000000001}") (Err TextCode.Text) refl refl refl refl

pub returns-clause-long : goal.returns-clause-long
returns-clause-long c = too_long
