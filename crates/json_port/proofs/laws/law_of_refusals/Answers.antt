use Rattle.std.proofs.Common.{refl, codes, Err}
use Rattle.itpg_base.specs.declared.text_code.TextCode.{TextCode}
use Rattle.serde_json.proofs.OnLiterals.{serde_json_on_literals}
use Rattle.json_port.specs.Objects.{op_of}
use Rattle.json_port.proofs.Examples.{line_of}
use Rattle.json_port.proofs.laws.law_of_refusals.Goals as goal

pub returns-clause-replaced_has_no_value : goal.returns-clause-replaced_has_no_value
unfolding serde_json_on_literals op_of
returns-clause-replaced_has_no_value c = line_of (codes "{\"op\":\"drop\",\"id\":1e999,\"id\":\"b\"}") (Err TextCode.Text) refl refl refl refl

pub returns-clause-last_is_no_name : goal.returns-clause-last_is_no_name
unfolding serde_json_on_literals op_of
returns-clause-last_is_no_name c = line_of (codes "{\"op\":\"drop\",\"id\":\"b\",\"id\":7}") (Err TextCode.Text) refl refl refl refl

pub returns-clause-too_great : goal.returns-clause-too_great
unfolding serde_json_on_literals op_of
returns-clause-too_great c = line_of (codes "{\"op\":\"live\",\"id\":\"a\",\"from\":0,\"to\":9223372036854775808}") (Err TextCode.Text) refl refl refl refl

pub returns-clause-point : goal.returns-clause-point
unfolding serde_json_on_literals op_of
returns-clause-point c = line_of (codes "{\"op\":\"live\",\"id\":\"a\",\"from\":0,\"to\":1.0}") (Err TextCode.Text) refl refl refl refl

pub returns-clause-exponent : goal.returns-clause-exponent
unfolding serde_json_on_literals op_of
returns-clause-exponent c = line_of (codes "{\"op\":\"live\",\"id\":\"a\",\"from\":0,\"to\":1e1}") (Err TextCode.Text) refl refl refl refl

pub returns-clause-zero_below_zero : goal.returns-clause-zero_below_zero
unfolding serde_json_on_literals op_of
returns-clause-zero_below_zero c = line_of (codes "{\"op\":\"live\",\"id\":\"a\",\"from\":-0,\"to\":1}") (Err TextCode.Text) refl refl refl refl

pub returns-clause-leading_zero : goal.returns-clause-leading_zero
unfolding serde_json_on_literals op_of
returns-clause-leading_zero c = line_of (codes "{\"op\":\"live\",\"id\":\"a\",\"from\":01,\"to\":1}") (Err TextCode.Text) refl refl refl refl

pub returns-clause-number_in_a_text : goal.returns-clause-number_in_a_text
unfolding serde_json_on_literals op_of
returns-clause-number_in_a_text c = line_of (codes "{\"op\":\"live\",\"id\":\"a\",\"from\":0,\"to\":\"1\"}") (Err TextCode.Text) refl refl refl refl

pub returns-clause-missing : goal.returns-clause-missing
unfolding serde_json_on_literals op_of
returns-clause-missing c = line_of (codes "{\"op\":\"live\",\"id\":\"a\"}") (Err TextCode.Text) refl refl refl refl

pub returns-clause-one_more : goal.returns-clause-one_more
unfolding serde_json_on_literals op_of
returns-clause-one_more c = line_of (codes "{\"op\":\"drop\",\"id\":\"a\",\"why\":null}") (Err TextCode.Text) refl refl refl refl

pub returns-clause-unknown_op : goal.returns-clause-unknown_op
unfolding serde_json_on_literals op_of
returns-clause-unknown_op c = line_of (codes "{\"op\":\"Drop\",\"id\":\"a\"}") (Err TextCode.Text) refl refl refl refl

pub returns-clause-no_word : goal.returns-clause-no_word
unfolding serde_json_on_literals op_of
returns-clause-no_word c = line_of (codes "{\"op\":\"drop\",\"id\":\"1a\"}") (Err TextCode.Text) refl refl refl refl

pub returns-clause-two_words : goal.returns-clause-two_words
unfolding serde_json_on_literals op_of
returns-clause-two_words c = line_of (codes "{\"op\":\"drop\",\"id\":\"a b\"}") (Err TextCode.Text) refl refl refl refl

pub returns-clause-empty_name : goal.returns-clause-empty_name
unfolding serde_json_on_literals op_of
returns-clause-empty_name c = line_of (codes "{\"op\":\"drop\",\"id\":\"\"}") (Err TextCode.Text) refl refl refl refl

pub returns-clause-quote_in_a_value : goal.returns-clause-quote_in_a_value
unfolding serde_json_on_literals op_of
returns-clause-quote_in_a_value c = line_of (codes "{\"op\":\"set\",\"id\":\"a\",\"prop\":\"p\",\"value\":\"it's\",\"from\":0,\"to\":1}") (Err TextCode.Text) refl refl refl refl

pub returns-clause-no_label : goal.returns-clause-no_label
unfolding serde_json_on_literals op_of
returns-clause-no_label c = line_of (codes "{\"op\":\"node\",\"id\":\"a\",\"labels\":[]}") (Err TextCode.Text) refl refl refl refl

pub returns-clause-nine_labels : goal.returns-clause-nine_labels
unfolding serde_json_on_literals op_of
returns-clause-nine_labels c = line_of (codes "{\"op\":\"node\",\"id\":\"a\",\"labels\":[\"T\",\"T\",\"T\",\"T\",\"T\",\"T\",\"T\",\"T\",\"T\"]}") (Err TextCode.Text) refl refl refl refl

pub returns-clause-label_in_no_array : goal.returns-clause-label_in_no_array
unfolding serde_json_on_literals op_of
returns-clause-label_in_no_array c = line_of (codes "{\"op\":\"node\",\"id\":\"a\",\"labels\":\"T\"}") (Err TextCode.Text) refl refl refl refl

pub returns-clause-label_of_no_word : goal.returns-clause-label_of_no_word
unfolding serde_json_on_literals op_of
returns-clause-label_of_no_word c = line_of (codes "{\"op\":\"node\",\"id\":\"a\",\"labels\":[\"T\",\"\"]}") (Err TextCode.Text) refl refl refl refl

pub returns-clause-surrogate : goal.returns-clause-surrogate
unfolding serde_json_on_literals op_of
returns-clause-surrogate c = line_of (codes "{\"op\":\"text\",\"line\":\"\\ud800\"}") (Err TextCode.Text) refl refl refl refl

pub returns-clause-text_behind : goal.returns-clause-text_behind
unfolding serde_json_on_literals op_of
returns-clause-text_behind c = line_of (codes "{\"op\":\"drop\",\"id\":\"a\"} {}") (Err TextCode.Text) refl refl refl refl

pub returns-clause-no_object : goal.returns-clause-no_object
unfolding serde_json_on_literals op_of
returns-clause-no_object c = line_of (codes "[\"op\"]") (Err TextCode.Text) refl refl refl refl

pub returns-clause-comment : goal.returns-clause-comment
unfolding serde_json_on_literals op_of
returns-clause-comment c = line_of (codes "# a comment") (Err TextCode.Text) refl refl refl refl
