-- The JSON of rows is what serde_json writes for their members.
use Rattle.std.proofs.Common.{◌≡◌, ◌⊎◌, inl, inr, ℕ, ◌<◌, ℤ, List, [], ◌∷◌, ◌++◌, Bool, true, false, Option, Some, None, refl, sym, ap, ap₂, ◌∙◌, subst, true≢false, append_assoc, arith, codes}
use Rattle.std.specs.Prelude.{pos, negsuc, decimal, IfSome}
use Rattle.std.specs.Fmt.{signed_decimal}
use Rattle.std.specs.List.{list_all}
use Rattle.std.proofs.lemmas.Bool.{and_parts}
use Rattle.std.proofs.lemmas.Bool.Decides.{leb_tells}
use Rattle.script_lex.specs.Bytes.{is_word_byte}
use Rattle.json.specs.Print.{escape, escape_byte, quoted}
use Rattle.json.proofs.Printed.Strings.{escape_byte_plain}
use Rattle.itpg_base.specs.Graphs.{Graph, name_at}
use Rattle.band_normal.specs.declared.band.End.{End}
use Rattle.band_normal.specs.declared.band.End.TheVariants.{Fixed, Moving}
use Rattle.relation_rows.specs.declared.rows.Row.{Row}
use Rattle.relation_rows.specs.declared.times.OneRow.{OneRow}
use Rattle.arrivals.specs.declared.counts.CountRow.{CountRow}
use Rattle.row_printer.specs.JsonTexts.{json_departures, json_end, json_arrivals, json_time, json_pair, json_count, json_lead, IsSign}
use Rattle.serde_json.specs.Data.{Data, string, object, Members, no_members, member}
use Rattle.serde_json.specs.Find.{of_integer}
use Rattle.serde_json.specs.Written.{number_text, comma_if, compact_text, members_text}
use Rattle.reply_text.proofs.Groups.{word_and_two, twice, three_numbers}
use Rattle.reply_text.specs.Values.{HasWordBytes, whole, end_value, departures, arrivals, signed, time_members, pair_members, count_members}

small_no_word : (x : ℕ) → x < 32 → is_word_byte x ≡ true → ⊥
small_no_word x h e = grind (arith, leb_tells)

word_byte_alone : (x : ℕ) → is_word_byte x ≡ true → escape_byte x ≡ x ∷ []
word_byte_alone x e = escape_byte_plain x (λ q. true≢false (sym e ∙ ap is_word_byte q)) (λ q. true≢false (sym e ∙ ap is_word_byte q)) (elim (leb_tells 32 x) [ inl p ↦ p.1 | inr p ↦ absurd (small_no_word x p.1 e) ])

escaped_bytes : (name : List ℕ) → list_all is_word_byte name ≡ true → escape name ≡ name
escaped_bytes [] e = refl
escaped_bytes (x ∷ name) e =
    let both = and_parts (is_word_byte x) (list_all is_word_byte name) e in ap₂ (λ a b. a ++ b) (word_byte_alone x both.0) (escaped_bytes name both.1)

-- the bytes of a word stand in a string as they are
pub quoted_word : (name : List ℕ) → HasWordBytes name → quoted name ≡ 34 ∷ (name ++ 34 ∷ [])
quoted_word name e = ap (λ t. 34 ∷ (t ++ 34 ∷ [])) (escaped_bytes name e)

pub number_as : (z : ℤ) → number_text (of_integer z) ≡ signed_decimal z
number_as (pos n) = refl
number_as (negsuc n) = refl

key_id : quoted (codes "id") ≡ codes "\"id\""
unfolding escape_byte
key_id = refl

key_from : quoted (codes "from") ≡ codes "\"from\""
unfolding escape_byte
key_from = refl

key_to : quoted (codes "to") ≡ codes "\"to\""
unfolding escape_byte
key_to = refl

key_target : quoted (codes "target") ≡ codes "\"target\""
unfolding escape_byte
key_target = refl

key_low : quoted (codes "low") ≡ codes "\"low\""
unfolding escape_byte
key_low = refl

key_high : quoted (codes "high") ≡ codes "\"high\""
unfolding escape_byte
key_high = refl

key_sign : quoted (codes "sign") ≡ codes "\"sign\""
unfolding escape_byte
key_sign = refl

key_fixed : quoted (codes "fixed") ≡ codes "\"fixed\""
unfolding escape_byte
key_fixed = refl

key_moving : quoted (codes "moving") ≡ codes "\"moving\""
unfolding escape_byte
key_moving = refl

key_count : quoted (codes "count") ≡ codes "\"count\""
unfolding escape_byte
key_count = refl

key_plus : quoted (43 ∷ []) ≡ codes "\"+\""
unfolding escape_byte
key_plus = refl

key_minus : quoted (45 ∷ []) ≡ codes "\"-\""
unfolding escape_byte
key_minus = refl

-- the text of a member and of those behind it
pub member_text : (later : Bool) (key : List ℕ) (d : Data) (ms : Members) (q t rest : List ℕ) → quoted key ≡ q → compact_text d ≡ t → members_text true ms ≡ rest
    → members_text later (member key d ms) ≡ comma_if later ++ (q ++ 58 ∷ (t ++ rest))
member_text later key d ms q t rest a b c = ap (λ x. comma_if later ++ x) (ap₂ (λ x y. x ++ 58 ∷ y) a (ap₂ (λ x y. x ++ y) b c))

end_as : (e : End) → compact_text (end_value e) ≡ json_end e
unfolding json_end
end_as (Fixed n) = ap (λ x. 123 ∷ x) (member_text false (codes "fixed") (whole n) no_members _ _ _ key_fixed (number_as n) refl)
end_as (Moving k) = ap (λ x. 123 ∷ x) (member_text false (codes "moving") (whole k) no_members _ _ _ key_moving (number_as k) refl)

-- the text of an object and a span, and of what follows
span_written : List ℕ → ℤ → ℤ → List ℕ → List ℕ
span_written name from to rest = codes "\"id\"" ++ 58 ∷ ((34 ∷ (name ++ 34 ∷ [])) ++ 44 ∷ (codes "\"from\"" ++ 58 ∷ (signed_decimal from ++ 44 ∷ (codes "\"to\"" ++ 58 ∷ (signed_decimal to ++ rest)))))

span_as : (later : Bool) (g : Graph) (o : ℕ) (from to : ℤ) (more : Members) (rest : List ℕ) → HasWordBytes (name_at g o) → members_text true more ≡ rest
    → members_text later (departures g o from to more) ≡ comma_if later ++ span_written (name_at g o) from to rest
unfolding span_written
span_as later g o from to more rest word e =
    let last = member_text true (codes "to") (whole to) more _ _ _ key_to (number_as to) e in
    let middle = member_text true (codes "from") (whole from) (member (codes "to") (whole to) more) _ _ _ key_from (number_as from) last in
    member_text later (codes "id") (string (name_at g o)) (member (codes "from") (whole from) (member (codes "to") (whole to) more)) _ _ _ key_id (quoted_word (name_at g o) word) middle

ends_written : List ℕ → End → End → List ℕ
ends_written name low high = 44 ∷ (codes "\"target\"" ++ 58 ∷ ((34 ∷ (name ++ 34 ∷ [])) ++ 44 ∷ (codes "\"low\"" ++ 58 ∷ (json_end low ++ 44 ∷ (codes "\"high\"" ++ 58 ∷ (json_end high ++ 125 ∷ []))))))

ends_as : (g : Graph) (o : ℕ) (low high : End) → HasWordBytes (name_at g o) → members_text true (arrivals g o low high) ≡ ends_written (name_at g o) low high
unfolding ends_written
ends_as g o low high word =
    let last = member_text true (codes "high") (end_value high) no_members _ _ _ key_high (end_as high) refl in
    let middle = member_text true (codes "low") (end_value low) (member (codes "high") (end_value high) no_members) _ _ _ key_low (end_as low) last in
    member_text true (codes "target") (string (name_at g o)) (member (codes "low") (end_value low) (member (codes "high") (end_value high) no_members)) _ _ _ key_target (quoted_word (name_at g o) word) middle

-- ---- behind the sign

sign_as : (sign : ℕ) (ms : Members) (rest : List ℕ) → (sign ≡ 43) ⊎ (sign ≡ 45) → members_text true ms ≡ 44 ∷ rest → compact_text (object (signed (Some sign) ms)) ≡ json_lead (Some sign) ++ rest
sign_as sign ms rest (inl plus) e =
    let P : ℕ → Type 0 = λ s. compact_text (object (signed (Some s) ms)) ≡ json_lead (Some s) ++ rest in
    subst P (sym plus) (ap (λ x. 123 ∷ x) (member_text false (codes "sign") (string (43 ∷ [])) ms _ _ _ key_sign key_plus e))
sign_as sign ms rest (inr minus) e =
    let P : ℕ → Type 0 = λ s. compact_text (object (signed (Some s) ms)) ≡ json_lead (Some s) ++ rest in
    subst P (sym minus) (ap (λ x. 123 ∷ x) (member_text false (codes "sign") (string (45 ∷ [])) ms _ _ _ key_sign key_minus e))

lead_as : (sign : Option ℕ) (ms : Members) (rest : List ℕ) → IfSome sign IsSign → ((later : Bool) → members_text later ms ≡ comma_if later ++ rest) → compact_text (object (signed sign ms)) ≡ json_lead sign ++ rest
lead_as None ms rest is e = ap (λ x. 123 ∷ x) (e false)
lead_as (Some sign) ms rest is e = sign_as sign ms rest is (e true)

-- ---- rows

time_text_as : (g : Graph) (r : OneRow) → json_time g r ≡ span_written (name_at g r.object.0) r.span.from r.span.to (125 ∷ []) ++ 10 ∷ []
unfolding json_time json_departures span_written
time_text_as g r =
    word_and_two (codes "\"id\":\"") (name_at g r.object.0) (34 ∷ []) (codes ",\"from\":") (signed_decimal r.span.from) (codes ",\"to\":") (signed_decimal r.span.to) (125 ∷ []) (10 ∷ [])

-- the text of a row behind its lead, and that of its members, are the same
line_as : (lead text rest value : List ℕ) → text ≡ rest ++ 10 ∷ [] → value ≡ lead ++ rest → lead ++ text ≡ value ++ 10 ∷ []
line_as lead text rest value e f = ap (λ x. lead ++ x) e ∙ sym (append_assoc lead rest (10 ∷ [])) ∙ ap (λ x. x ++ 10 ∷ []) (sym f)

pub times_as : (g : Graph) (sign : Option ℕ) (r : OneRow) → IfSome sign IsSign → HasWordBytes (name_at g r.object.0) → json_lead sign ++ json_time g r ≡ compact_text (object (time_members g sign r)) ++ codes "\n"
times_as g sign r is word =
    let rest = span_written (name_at g r.object.0) r.span.from r.span.to (125 ∷ []) in
    let value = lead_as sign (departures g r.object.0 r.span.from r.span.to no_members) rest is (λ later. span_as later g r.object.0 r.span.from r.span.to no_members (125 ∷ []) word refl) in
    line_as (json_lead sign) (json_time g r) rest (compact_text (object (time_members g sign r))) (time_text_as g r) value

pair_text_as : (g : Graph) (r : Row)
    → json_pair g r ≡ span_written (name_at g r.source.0) r.band.from r.band.to (ends_written (name_at g r.target.0) r.band.low r.band.high) ++ 10 ∷ []
unfolding json_pair json_departures json_arrivals span_written ends_written
pair_text_as g r =
    twice (codes "\"id\":\"") (name_at g r.source.0) (34 ∷ []) (codes ",\"from\":") (signed_decimal r.band.from) (codes ",\"to\":") (signed_decimal r.band.to)
    (codes ",") (codes "\"target\":\"") (name_at g r.target.0) (codes ",\"low\":") (json_end r.band.low) (codes ",\"high\":") (json_end r.band.high) (125 ∷ []) (10 ∷ [])

pub pairs_as : (g : Graph) (sign : Option ℕ) (r : Row) → IfSome sign IsSign → HasWordBytes (name_at g r.source.0) → HasWordBytes (name_at g r.target.0)
    → json_lead sign ++ json_pair g r ≡ compact_text (object (pair_members g sign r)) ++ codes "\n"
pairs_as g sign r is source target =
    let more = arrivals g r.target.0 r.band.low r.band.high in
    let tail = ends_written (name_at g r.target.0) r.band.low r.band.high in
    let ends = ends_as g r.target.0 r.band.low r.band.high target in
    let rest = span_written (name_at g r.source.0) r.band.from r.band.to tail in
    let value = lead_as sign (departures g r.source.0 r.band.from r.band.to more) rest is (λ later. span_as later g r.source.0 r.band.from r.band.to more tail source ends) in
    line_as (json_lead sign) (json_pair g r) rest (compact_text (object (pair_members g sign r))) (pair_text_as g r) value

-- ---- counts

pub counts_as : (r : CountRow) → json_count r ≡ compact_text (object (count_members r)) ++ codes "\n"
unfolding json_count
counts_as r =
    let from = signed_decimal r.span.from in
    let to = signed_decimal r.span.to in
    let number = whole (pos r.number) in
    let last = member_text true (codes "count") number no_members _ _ _ key_count (number_as (pos r.number)) refl in
    let middle = member_text true (codes "to") (whole r.span.to) (member (codes "count") number no_members) _ _ _ key_to (number_as r.span.to) last in
    let first = member_text false (codes "from") (whole r.span.from) (member (codes "to") (whole r.span.to) (member (codes "count") number no_members)) _ _ _ key_from (number_as r.span.from) middle in
    three_numbers (codes "{\"from\":") from (codes ",\"to\":") to (codes ",\"count\":") (decimal r.number) (125 ∷ []) (10 ∷ []) ∙ ap (λ x. x ++ 10 ∷ []) (sym (ap (λ x. 123 ∷ x) first))
