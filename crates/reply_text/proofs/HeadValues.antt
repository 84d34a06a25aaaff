-- The JSON of the first lines of replies is what serde_json writes for their members.
use Rattle.std.proofs.Common.{◌≡◌, ℕ, [], ◌∷◌, ◌++◌, true, false, refl, sym, ap, ◌∙◌, codes}
use Rattle.std.specs.Prelude.{pos, decimal}
use Rattle.json.specs.Print.{escape_byte, quoted}
use Rattle.serde_json.specs.Data.{string, boolean, object, no_members, member}
use Rattle.serde_json.specs.Written.{compact_text}
use Rattle.itpg_base.specs.Words.{Word}
use Rattle.itpg_base.specs.Rules.{rule_word}
use Rattle.itpg_base.specs.declared.rule_code.RuleCode.{RuleCode}
use Rattle.itpg_base.specs.declared.rule_code.RuleCode.TheVariants as rules
use Rattle.itpg_base.specs.TextCodes.{text_word}
use Rattle.itpg_base.specs.declared.text_code.TextCode.{TextCode}
use Rattle.itpg_base.specs.declared.text_code.TextCode.TheVariants as faults
use Rattle.row_printer.specs.declared.form.Form.TheVariants.{Json}
use Rattle.reply_text.specs.Texts.{refused_text, bad_text, wide_text, head_text, counts_head_text, tick_wide_text, tick_head_text}
use Rattle.reply_text.specs.Values.{HasWordBytes, whole, line_members, tick_members, change_members}
use Rattle.reply_text.proofs.Groups.{one_number, two_numbers, number_and_word, one_word, word_and_two}
use Rattle.reply_text.proofs.RowValues.{quoted_word, number_as, member_text}

key_line : quoted (codes "line") ≡ codes "\"line\""
unfolding escape_byte
key_line = refl

key_refused : quoted (codes "refused") ≡ codes "\"refused\""
unfolding escape_byte
key_refused = refl

key_bad : quoted (codes "bad") ≡ codes "\"bad\""
unfolding escape_byte
key_bad = refl

key_wide : quoted (codes "wide") ≡ codes "\"wide\""
unfolding escape_byte
key_wide = refl

key_rows : quoted (codes "rows") ≡ codes "\"rows\""
unfolding escape_byte
key_rows = refl

key_counts : quoted (codes "counts") ≡ codes "\"counts\""
unfolding escape_byte
key_counts = refl

key_tick : quoted (codes "tick") ≡ codes "\"tick\""
unfolding escape_byte
key_tick = refl

key_gained : quoted (codes "gained") ≡ codes "\"gained\""
unfolding escape_byte
key_gained = refl

key_lost : quoted (codes "lost") ≡ codes "\"lost\""
unfolding escape_byte
key_lost = refl

-- ---- words of rules and faults

rule_bytes : (rule : RuleCode) → HasWordBytes (rule_word rule)
rule_bytes rules.NoGraph = refl
rule_bytes rules.Again = refl
rule_bytes rules.Taken = refl
rule_bytes rules.Unknown = refl
rule_bytes rules.Kind = refl
rule_bytes rules.Backwards = refl
rule_bytes rules.Horizon = refl
rule_bytes rules.Ends = refl
rule_bytes rules.Absent = refl
rule_bytes rules.Held = refl
rule_bytes rules.Incident = refl
rule_bytes rules.Full = refl
rule_bytes rules.GraphName = refl
rule_bytes rules.Narrow = refl

fault_bytes : (code : TextCode) → HasWordBytes (text_word code)
fault_bytes faults.Long = refl
fault_bytes faults.Byte = refl
fault_bytes faults.Tokens = refl
fault_bytes faults.Deep = refl
fault_bytes faults.Text = refl
fault_bytes faults.Number = refl
fault_bytes faults.Name = refl
fault_bytes faults.Range = refl
fault_bytes faults.Names = refl
fault_bytes faults.Terms = refl

-- ---- the lines

pub refused_as : (n : ℕ) (rule : RuleCode) → refused_text Json n rule ≡ compact_text (object (line_members n (codes "refused") (string (rule_word rule)))) ++ codes "\n"
unfolding refused_text
refused_as n rule =
    let w = rule_word rule in
    let last = member_text true (codes "refused") (string w) no_members _ _ _ key_refused (quoted_word w (rule_bytes rule)) refl in
    let first = member_text false (codes "line") (whole (pos n)) (member (codes "refused") (string w) no_members) _ _ _ key_line (number_as (pos n)) last in
    number_and_word (codes "{\"line\":") (decimal n) (codes ",\"refused\":\"") w (34 ∷ []) (125 ∷ []) (10 ∷ []) ∙ ap (λ x. x ++ 10 ∷ []) (sym (ap (λ x. 123 ∷ x) first))

pub bad_as : (n : ℕ) (code : TextCode) → bad_text Json n code ≡ compact_text (object (line_members n (codes "bad") (string (text_word code)))) ++ codes "\n"
unfolding bad_text
bad_as n code =
    let w = text_word code in
    let last = member_text true (codes "bad") (string w) no_members _ _ _ key_bad (quoted_word w (fault_bytes code)) refl in
    let first = member_text false (codes "line") (whole (pos n)) (member (codes "bad") (string w) no_members) _ _ _ key_line (number_as (pos n)) last in
    number_and_word (codes "{\"line\":") (decimal n) (codes ",\"bad\":\"") w (34 ∷ []) (125 ∷ []) (10 ∷ []) ∙ ap (λ x. x ++ 10 ∷ []) (sym (ap (λ x. 123 ∷ x) first))

pub wide_as : (n : ℕ) → wide_text Json n ≡ compact_text (object (line_members n (codes "wide") (boolean true))) ++ codes "\n"
unfolding wide_text
wide_as n =
    let last = member_text true (codes "wide") (boolean true) no_members _ _ _ key_wide refl refl in
    let first = member_text false (codes "line") (whole (pos n)) (member (codes "wide") (boolean true) no_members) _ _ _ key_line (number_as (pos n)) last in
    one_number (codes "{\"line\":") (decimal n) (codes ",\"wide\":true}") (10 ∷ []) ∙ ap (λ x. x ++ 10 ∷ []) (sym (ap (λ x. 123 ∷ x) first))

pub rows_as : (n count : ℕ) → head_text Json n count ≡ compact_text (object (line_members n (codes "rows") (whole (pos count)))) ++ codes "\n"
unfolding head_text
rows_as n count =
    let last = member_text true (codes "rows") (whole (pos count)) no_members _ _ _ key_rows (number_as (pos count)) refl in
    let first = member_text false (codes "line") (whole (pos n)) (member (codes "rows") (whole (pos count)) no_members) _ _ _ key_line (number_as (pos n)) last in
    two_numbers (codes "{\"line\":") (decimal n) (codes ",\"rows\":") (decimal count) (125 ∷ []) (10 ∷ []) ∙ ap (λ x. x ++ 10 ∷ []) (sym (ap (λ x. 123 ∷ x) first))

pub counted_as : (n count : ℕ) → counts_head_text Json n count ≡ compact_text (object (line_members n (codes "counts") (whole (pos count)))) ++ codes "\n"
unfolding counts_head_text
counted_as n count =
    let last = member_text true (codes "counts") (whole (pos count)) no_members _ _ _ key_counts (number_as (pos count)) refl in
    let first = member_text false (codes "line") (whole (pos n)) (member (codes "counts") (whole (pos count)) no_members) _ _ _ key_line (number_as (pos n)) last in
    two_numbers (codes "{\"line\":") (decimal n) (codes ",\"counts\":") (decimal count) (125 ∷ []) (10 ∷ []) ∙ ap (λ x. x ++ 10 ∷ []) (sym (ap (λ x. 123 ∷ x) first))

pub tick_wide_as : (name : Word) → HasWordBytes name → tick_wide_text Json name ≡ compact_text (object (tick_members name (member (codes "wide") (boolean true) no_members))) ++ codes "\n"
unfolding tick_wide_text
tick_wide_as name word =
    let last = member_text true (codes "wide") (boolean true) no_members _ _ _ key_wide refl refl in
    let first = member_text false (codes "tick") (string name) (member (codes "wide") (boolean true) no_members) _ _ _ key_tick (quoted_word name word) last in
    one_word (codes "{\"tick\":\"") name (34 ∷ []) (codes ",\"wide\":true}") (10 ∷ []) ∙ ap (λ x. x ++ 10 ∷ []) (sym (ap (λ x. 123 ∷ x) first))

pub tick_as : (name : Word) (gained lost : ℕ) → HasWordBytes name → tick_head_text Json name gained lost ≡ compact_text (object (tick_members name (change_members gained lost))) ++ codes "\n"
unfolding tick_head_text
tick_as name gained lost word =
    let last = member_text true (codes "lost") (whole (pos lost)) no_members _ _ _ key_lost (number_as (pos lost)) refl in
    let middle = member_text true (codes "gained") (whole (pos gained)) (member (codes "lost") (whole (pos lost)) no_members) _ _ _ key_gained (number_as (pos gained)) last in
    let first = member_text false (codes "tick") (string name) (change_members gained lost) _ _ _ key_tick (quoted_word name word) middle in
    word_and_two (codes "{\"tick\":\"") name (34 ∷ []) (codes ",\"gained\":") (decimal gained) (codes ",\"lost\":") (decimal lost) (125 ∷ []) (10 ∷ [])
    ∙ ap (λ x. x ++ 10 ∷ []) (sym (ap (λ x. 123 ∷ x) first))
