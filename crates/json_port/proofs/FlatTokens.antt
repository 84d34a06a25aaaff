-- The tokens of a flat object, and the data that serde_json reads of them.
use Rattle.std.proofs.Common.{◌≡◌, ℕ, ℤ, pos, negsuc, suc, ◌+◌, ◌-◌, ◌^◌, ◌<◌, ◌≤◌, List, [], ◌∷◌, ◌++◌, length, map, reverse, false, Some, Bor, take, set, option_map, option_and_then, refl, sym, ap, ◌∙◌, subst, arith, append_assoc, append-nil, length-append}
use Rattle.std.proofs.lemmas.List.{reverse-append, take_more_set, map-append}
use Rattle.std.specs.List.{flat_map}
use Rattle.std.specs.Fmt.{signed_decimal}
use lib.Signed.{mag}
use Rattle.json.specs.Token.{Token, begin_object, end_object, begin_array, end_array, key, string, number}
use Rattle.json.specs.Lex.{Lexeme, token, comma, colon, lex, between, Place, fresh, after_value, after_comma, begins_colon, punctuate, tokens}
use Rattle.json.specs.Json as json
use Rattle.json.specs.Json.{items, members, value, parse_map}
use Rattle.json.proofs.Grammar.{value_is, value-begin_array, value-begin_object, items_end, items_more, members_end, members_more}
use Rattle.serde_json.specs.Data as spec
use Rattle.serde_json.specs.Data.{Data, no_members, put}
use Rattle.serde_json.specs.Find.{of_integer}
use Rattle.serde_json.specs.Read.{number_of, of_json, of_items, of_members, read}
use Rattle.serde_json.proofs.Numbers.{number_of-decimal, number_of-negative}
use Rattle.json_port.specs.declared.member.Part.{Part}
use Rattle.json_port.specs.declared.member.Member.{Member}
use Rattle.json_port.specs.Keys.{key_word}
use Rattle.json_port.specs.Flats.{texts_data, part_data, latest, members_of, between_commas, text_lexemes, enclosed, part_lexemes, member_lexemes, object_lexemes, IsSized, AreSized}

-- ---- lists that grow at their end

abbrev pub with_comma : {A : Type 0} → (A → List Lexeme) → A → List Lexeme
with_comma f x = f x ++ comma ∷ []

before_more : {A : Type 0} (f : A → List Lexeme) (a : List Lexeme) (ys : List A) (x : A) → between_commas (a ∷ map f (ys ++ x ∷ [])) ≡ a ++ comma ∷ between_commas (map f (ys ++ x ∷ []))
before_more f a [] x = refl
before_more f a (y ∷ ys) x = refl

joined : {A : Type 0} (f : A → List Lexeme) (xs : List A) (x : A) → between_commas (map f (xs ++ x ∷ [])) ≡ flat_map (with_comma f) xs ++ f x
joined f [] x = refl
joined f (y ∷ ys) x =
    before_more f (f y) ys x ∙ ap (λ l. f y ++ comma ∷ l) (joined f ys x)
    ∙ sym (append_assoc (f y ++ comma ∷ []) (flat_map (with_comma f) ys) (f x) ∙ append_assoc (f y) (comma ∷ []) (flat_map (with_comma f) ys ++ f x))

flat_map-push : {A : Type 0} (f : A → List Lexeme) (xs : List A) (x : A) → flat_map f (xs ++ x ∷ []) ≡ flat_map f xs ++ f x
flat_map-push f [] x = append-nil (f x)
flat_map-push f (y ∷ ys) x = ap (λ l. f y ++ l) (flat_map-push f ys x) ∙ sym (append_assoc (f y) (flat_map f ys) (f x))

-- what was read of a list: these items, each with its comma
abbrev pub Begun : {A : Type 0} → (A → List Lexeme) → Lexeme → List Lexeme → List A → List Lexeme → Type 0
Begun f opens whole xs rest = whole ≡ opens ∷ (flat_map (with_comma f) xs ++ rest)

pub one_more : {A : Type 0} (f : A → List Lexeme) (opens : Lexeme) (whole : List Lexeme) (xs : List A) (x : A) (rest behind next : List Lexeme) → Begun f opens whole xs rest → rest ≡ f x ++ behind → behind ≡ comma ∷ next
    → Begun f opens whole (xs ++ x ∷ []) next
one_more f opens whole xs x rest behind next begun here then =
    let front = flat_map (with_comma f) xs in
    begun ∙ ap (λ l. opens ∷ (front ++ l)) (here ∙ ap (λ l. f x ++ l) then ∙ sym (append_assoc (f x) (comma ∷ []) next))
    ∙ ap (λ l. opens ∷ l) (sym (append_assoc front (with_comma f x) next) ∙ ap (λ l. l ++ next) (sym (flat_map-push (with_comma f) xs x)))

pub last_one : {A : Type 0} (f : A → List Lexeme) (opens closes : Lexeme) (whole : List Lexeme) (xs : List A) (x : A) (rest behind next : List Lexeme) → Begun f opens whole xs rest → rest ≡ f x ++ behind → behind ≡ closes ∷ next
    → whole ≡ enclosed opens closes f (xs ++ x ∷ []) ++ next
last_one f opens closes whole xs x rest behind next begun here then =
    let front = flat_map (with_comma f) xs in
    begun ∙ ap (λ l. opens ∷ (front ++ l)) (here ∙ ap (λ l. f x ++ l) then)
    ∙ ap (λ l. opens ∷ l)
    (sym (append_assoc front (f x) (closes ∷ next)) ∙ ap (λ l. l ++ closes ∷ next) (sym (joined f xs x)) ∙ sym (append_assoc (between_commas (map f (xs ++ x ∷ []))) (closes ∷ []) next))

-- ---- from lexemes to tokens

texts_after_comma : (s : List ℕ) (ss : List (List ℕ)) (r : List Lexeme) → punctuate after_comma ((between_commas (map text_lexemes (s ∷ ss)) ++ token end_array ∷ []) ++ r) ≡ map string (s ∷ ss) ++ end_array ∷ punctuate after_value r
unfolding punctuate
texts_after_comma s [] r = refl
texts_after_comma s (t ∷ ts) r = ap (λ l. string s ∷ l) (texts_after_comma t ts r)

texts_punctuated : (ss : List (List ℕ)) (r : List Lexeme) → punctuate fresh ((between_commas (map text_lexemes ss) ++ token end_array ∷ []) ++ r) ≡ map string ss ++ end_array ∷ punctuate after_value r
unfolding punctuate
texts_punctuated [] r = refl
texts_punctuated (s ∷ []) r = refl
texts_punctuated (s ∷ t ∷ ts) r = ap (λ l. string s ∷ l) (texts_after_comma t ts r)

abbrev part_tokens : List (List ℕ) → Part → List Token
part_tokens names (Part.Text s) = string s.now ∷ []
part_tokens names (Part.Number n) = number (signed_decimal n) ∷ []
part_tokens names Part.Names = begin_array ∷ (map string (names) ++ end_array ∷ [])

abbrev member_tokens : List (List ℕ) → Member → List Token
member_tokens names m = key (key_word m.key) ∷ part_tokens names m.part

value_punctuated : (names : List (List ℕ)) (part : Part) (r : List Lexeme) → begins_colon r ≡ false → punctuate fresh (part_lexemes names part ++ r) ≡ part_tokens names part ++ punctuate after_value r
unfolding punctuate
value_punctuated names (Part.Text s) r h = rw h
value_punctuated names (Part.Number n) r h = refl
value_punctuated names Part.Names r h = ap (λ l. begin_array ∷ l) (texts_punctuated (names) r ∙ sym (append_assoc (map string (names)) (end_array ∷ []) (punctuate after_value r)))

abbrev MayBegin : Place → Type 0
MayBegin p = (k : List ℕ) (ls : List Lexeme) → punctuate p (token (string k) ∷ colon ∷ ls) ≡ key k ∷ punctuate fresh ls

fresh_begins : MayBegin fresh
unfolding punctuate
fresh_begins k ls = refl

comma_begins : MayBegin after_comma
unfolding punctuate
comma_begins k ls = refl

abbrev members_text : List (List ℕ) → List Member → List Lexeme → List Lexeme
members_text names ms r = (between_commas (map (member_lexemes names) ms) ++ token end_object ∷ []) ++ r

closed : (r : List Lexeme) → punctuate after_value (token end_object ∷ r) ≡ end_object ∷ punctuate after_value r
unfolding punctuate
closed r = refl

comma_passed : (r : List Lexeme) → punctuate after_value (comma ∷ r) ≡ punctuate after_comma r
unfolding punctuate
comma_passed r = refl

members_punctuated : (names : List (List ℕ)) (p : Place) → MayBegin p → (m : Member) (ms : List Member) (r : List Lexeme) → punctuate p (members_text names (m ∷ ms) r) ≡ flat_map (member_tokens names) (m ∷ ms) ++ end_object ∷ punctuate after_value r
members_punctuated names p begins m [] r =
    let v = part_lexemes names m.part in
    ap (λ l. punctuate p (token (string (key_word m.key)) ∷ colon ∷ l)) (append_assoc v (token end_object ∷ []) r) ∙ begins (key_word m.key) (v ++ token end_object ∷ r)
    ∙ ap (λ l. key (key_word m.key) ∷ l)
    (value_punctuated names m.part (token end_object ∷ r) refl ∙ ap (λ l. part_tokens names m.part ++ l) (closed r) ∙ ap (λ l. l ++ end_object ∷ punctuate after_value r) (sym (append-nil (part_tokens names m.part))))
members_punctuated names p begins m (n ∷ ns) r =
    let v = part_lexemes names m.part in
    let more = between_commas (map (member_lexemes names) (n ∷ ns)) in
    let t = part_tokens names m.part in
    ap (λ l. punctuate p (token (string (key_word m.key)) ∷ colon ∷ l)) (append_assoc (v ++ comma ∷ more) (token end_object ∷ []) r ∙ append_assoc v (comma ∷ more) (token end_object ∷ r) ∙ ap (λ l. v ++ comma ∷ l) (sym (append_assoc more (token end_object ∷ []) r)))
    ∙ begins (key_word m.key) (v ++ comma ∷ members_text names (n ∷ ns) r)
    ∙ ap (λ l. key (key_word m.key) ∷ l)
    (value_punctuated names m.part (comma ∷ members_text names (n ∷ ns) r) refl ∙ ap (λ l. t ++ l) (comma_passed (members_text names (n ∷ ns) r) ∙ members_punctuated names after_comma comma_begins n ns r)
    ∙ sym (append_assoc t (flat_map (member_tokens names) (n ∷ ns)) (end_object ∷ punctuate after_value r)))

none_punctuated : (r : List Lexeme) → punctuate fresh (token end_object ∷ r) ≡ end_object ∷ punctuate after_value r
unfolding punctuate
none_punctuated r = refl

all_punctuated : (names : List (List ℕ)) (ms : List Member) (r : List Lexeme) → punctuate fresh (members_text names ms r) ≡ flat_map (member_tokens names) ms ++ end_object ∷ punctuate after_value r
all_punctuated names [] r = none_punctuated r
all_punctuated names (m ∷ ms) r = members_punctuated names fresh fresh_begins m ms r

object_punctuated : (names : List (List ℕ)) (ms : List Member) → punctuate fresh (object_lexemes names ms ++ []) ≡ begin_object ∷ (flat_map (member_tokens names) ms ++ end_object ∷ [])
unfolding punctuate
object_punctuated names ms = ap (λ l. begin_object ∷ l) (all_punctuated names ms [])

-- ---- from tokens to JSON's tree

abbrev json_texts : List (List ℕ) → json.Items
json_texts [] = json.no_items
json_texts (s ∷ ss) = json.item (json.string s) (json_texts ss)

abbrev part_json : List (List ℕ) → Part → json.Json
part_json names (Part.Text s) = json.string s.now
part_json names (Part.Number n) = json.number (signed_decimal n)
part_json names Part.Names = json.array (json_texts (names))

abbrev json_members : List (List ℕ) → List Member → json.Members
json_members names [] = json.no_members
json_members names (m ∷ ms) = json.member (key_word m.key) (part_json names m.part) (json_members names ms)

texts_parsed : (d n : ℕ) (ss : List (List ℕ)) (r : List Token) → length (map string ss ++ end_array ∷ r) ≤ n → items (value d) n (map string ss ++ end_array ∷ r) ≡ Some (json_texts ss, r)
texts_parsed d n [] r enough = items_end (value d) n (end_array ∷ r) r enough refl
texts_parsed d n (s ∷ ss) r enough =
    let rest = map string ss ++ end_array ∷ r in
    let some : 0 < n = omega arith in
    items_more (value d) n (string s ∷ rest) rest (json.string s) some refl (value_is d (string s ∷ rest)) ∙ ap (parse_map (json.item (json.string s))) (texts_parsed d (n - 1) ss r (omega arith))

part_parsed : (d : ℕ) → 0 < d → (names : List (List ℕ)) (part : Part) (r : List Token) → value d (part_tokens names part ++ r) ≡ Some (part_json names part, r)
part_parsed d some names (Part.Text s) r = value_is d (string s.now ∷ r)
part_parsed d some names (Part.Number n) r = value_is d (number (signed_decimal n) ∷ r)
part_parsed d some names Part.Names r =
    let ts = map string (names) ++ end_array ∷ r in
    ap (λ l. value d (begin_array ∷ l)) (append_assoc (map string (names)) (end_array ∷ []) r) ∙ value-begin_array d ts some
    ∙ ap (parse_map json.array) (texts_parsed (d - 1) (length ts) (names) r (omega arith))

members_parsed : (d : ℕ) → 0 < d → (names : List (List ℕ)) (n : ℕ) (ms : List Member) (r : List Token) → length (flat_map (member_tokens names) ms ++ end_object ∷ r) ≤ n → members (value d) n (flat_map (member_tokens names) ms ++ end_object ∷ r) ≡ Some (json_members names ms, r)
members_parsed d some names n [] r enough = members_end (value d) n (end_object ∷ r) r enough refl
members_parsed d some names n (m ∷ ms) r enough =
    let more = flat_map (member_tokens names) ms ++ end_object ∷ r in
    let t = part_tokens names m.part in
    let shape : flat_map (member_tokens names) (m ∷ ms) ++ end_object ∷ r ≡ key (key_word m.key) ∷ (t ++ more) = ap (λ l. key (key_word m.key) ∷ l) (append_assoc t (flat_map (member_tokens names) ms) (end_object ∷ r)) in
    let size : length (flat_map (member_tokens names) (m ∷ ms) ++ end_object ∷ r) ≡ suc (length t + length more) = ap length shape ∙ ap suc (length-append t more) in
    let first : 0 < n = omega arith in
    let left : length more ≤ n - 1 = omega arith in
    ap (members (value d) n) shape
    ∙ members_more (value d) n (key_word m.key) (key (key_word m.key) ∷ (t ++ more)) (t ++ more) more (part_json names m.part) first refl (part_parsed d some names m.part more)
    ∙ ap (parse_map (json.member (key_word m.key) (part_json names m.part))) (members_parsed d some names (n - 1) ms r left)

-- ---- from the tree to data

number_read : (z : ℤ) → mag z < 2 ^ 63 → number_of (signed_decimal z) ≡ Some (of_integer z)
number_read (pos n) h = number_of-decimal n (omega arith)
number_read (negsuc n) h = number_of-negative n (omega arith)

texts_read : (ss : List (List ℕ)) → of_items (json_texts ss) ≡ Some (texts_data ss)
texts_read [] = refl
texts_read (s ∷ ss) = ap (option_map (spec.item (spec.string s))) (texts_read ss)

part_read : (names : List (List ℕ)) (part : Part) → IsSized part → of_json (part_json names part) ≡ Some (part_data names part)
part_read names (Part.Text s) sized = refl
part_read names (Part.Number n) sized = ap (option_map spec.number) (number_read n sized)
part_read names Part.Names sized = ap (option_map spec.array) (texts_read (names))

members_read : (names : List (List ℕ)) (ms before : List Member) → AreSized ms → of_members (json_members names ms) (latest names before) ≡ Some (latest names (reverse ms ++ before))
members_read names [] before sized = refl
members_read names (m ∷ ms) before sized =
    ap (option_and_then (λ d. of_members (json_members names ms) (put (key_word m.key) d (latest names before)))) (part_read names m.part sized.0) ∙ members_read names ms (m ∷ before) sized.1
    ∙ ap (λ l. Some (latest names l)) (sym (ap (λ l. l ++ before) (reverse-append (m ∷ []) ms) ∙ append_assoc (reverse ms) (m ∷ []) before))

-- serde_json reads a flat object as its data
object_read : (names : List (List ℕ)) (line : List ℕ) (ms : List Member) → AreSized ms → lex between line ≡ object_lexemes names ms ++ [] → read line ≡ Some (spec.object (members_of names ms))
object_read names line ms sized is =
    let ts = flat_map (member_tokens names) ms ++ end_object ∷ [] in
    let read_tokens : tokens line ≡ begin_object ∷ ts = ap (punctuate fresh) is ∙ object_punctuated names ms in
    let parsed : value 127 (tokens line) ≡ Some (json.object (json_members names ms), []) =
    ap (value 127) read_tokens ∙ value-begin_object 127 ts (omega arith) ∙ ap (parse_map json.object) (members_parsed (127 - 1) (omega arith) names (length ts) ms [] (omega arith)) in
    ap (λ o. option_and_then of_json (option_and_then (λ p. json.if_last p.0 p.1) o)) parsed
    ∙ ap (option_map spec.object) (members_read names ms [] sized ∙ ap (λ l. Some (latest names l)) (append-nil (reverse ms)))

nothing : lex between [] ≡ []
unfolding lex
nothing = refl

pub flat_read : (names : List (List ℕ)) (line rest behind : List ℕ) (ms : List Member) → AreSized ms → lex between line ≡ object_lexemes names ms ++ lex between rest → lex between behind ≡ lex between rest → behind ≡ []
    → read line ≡ Some (spec.object (members_of names ms))
flat_read names line rest behind ms sized is blanks none = object_read names line ms sized (is ∙ ap (λ l. object_lexemes names ms ++ l) (sym blanks ∙ ap (lex between) none ∙ nothing))

-- ---- arrays that fill

pub more_texts : (items : List (Bor (List ℕ))) (i : ℕ) (name : Bor (List ℕ)) → i < length items → map (λ s. s.now) (take (i + 1) (set items i name)) ≡ map (λ s. s.now) (take i items) ++ name.now ∷ []
more_texts items i name h = ap (map (λ s. s.now)) (take_more_set items i name h) ∙ map-append (λ s. s.now) (take i items) (name ∷ [])

sized_last : (ms : List Member) (m : Member) → AreSized ms → IsSized m.part → AreSized (ms ++ m ∷ [])
sized_last [] m sized last = (last, tt)
sized_last (n ∷ ns) m sized last = (sized.0, sized_last ns m sized.1 last)

pub sized_push : (items : List Member) (i : ℕ) (m : Member) → i < length items → AreSized (take i items) → IsSized m.part → AreSized (take (i + 1) (set items i m))
sized_push items i m h sized last = subst AreSized (sym (take_more_set items i m h)) (sized_last (take i items) m sized last)

pub one_more_member : (names : List (List ℕ)) (line rest behind next : List ℕ) (ms : List Member) (i : ℕ) (m : Member) → i < length ms → Begun (member_lexemes names) (token begin_object) (lex between line) (take i ms) (lex between rest)
    → lex between rest ≡ member_lexemes names m ++ lex between behind → lex between behind ≡ comma ∷ lex between next
    → Begun (member_lexemes names) (token begin_object) (lex between line) (take (i + 1) (set ms i m)) (lex between next)
one_more_member names line rest behind next ms i m h begun here then =
    subst (λ xs. Begun (member_lexemes names) (token begin_object) (lex between line) xs (lex between next)) (sym (take_more_set ms i m h))
    (one_more (member_lexemes names) (token begin_object) (lex between line) (take i ms) m (lex between rest) (lex between behind) (lex between next) begun here then)

pub last_member : (names : List (List ℕ)) (line rest behind next : List ℕ) (ms : List Member) (i : ℕ) (m : Member) → i < length ms → Begun (member_lexemes names) (token begin_object) (lex between line) (take i ms) (lex between rest)
    → lex between rest ≡ member_lexemes names m ++ lex between behind → lex between behind ≡ token end_object ∷ lex between next → lex between line ≡ object_lexemes names (take (i + 1) (set ms i m)) ++ lex between next
last_member names line rest behind next ms i m h begun here then =
    subst (λ xs. lex between line ≡ object_lexemes names xs ++ lex between next) (sym (take_more_set ms i m h))
    (last_one (member_lexemes names) (token begin_object) (token end_object) (lex between line) (take i ms) m (lex between rest) (lex between behind) (lex between next) begun here then)
