-- Lexemes are of ASCII: a text is if what follows the lexeme at its front is.
use Rattle.std.proofs.Common.{◌≡◌, ℕ, zero, suc, ◌+◌, ◌^◌, ◌<◌, List, [], ◌∷◌, ◌++◌, length, take, drop, get_or, Bool, true, false, cond, ◌&&◌, decimal, refl, sym, ap, ap₂, ◌∙◌, subst, arith}
use Rattle.std.specs.Prelude.{nat_lt, slice_index}
use Rattle.std.specs.List.{prefix_len}
use Rattle.std.proofs.lemmas.Bool.{and_parts, lt-ltb, ltb-true, eqb-true}
use Rattle.std.proofs.lemmas.List.{drop_more}
use Rattle.std.proofs.lemmas.Fmt.{IsAscii-decimal}
use Rattle.json.specs.Word.{is_operator, is_space}
use Rattle.json_port.specs.Flats.{are_ascii, is_plain_ascii}
use Rattle.json_port.proofs.Fronts.{last_is}

abbrev is_low : ℕ → Bool
is_low b = nat_lt b 128

pub ascii_at : (text : List ℕ) → are_ascii text ≡ true → (i : ℕ) → slice_index text i < 128
ascii_at [] e i = omega arith
ascii_at (b ∷ text) e zero = ltb-true b 128 (and_parts (is_low b) (are_ascii text) e).0
ascii_at (b ∷ text) e (suc i) = ascii_at text (and_parts (is_low b) (are_ascii text) e).1 i

behind_low : (x : ℕ) (xs : List ℕ) → is_low x ≡ true → are_ascii (x ∷ xs) ≡ are_ascii xs
behind_low x xs e = ap (λ b. b && are_ascii xs) e

behind_front : (xs ys : List ℕ) → are_ascii xs ≡ true → are_ascii (xs ++ ys) ≡ are_ascii ys
behind_front [] ys e = refl
behind_front (x ∷ xs) ys e =
    let parts = and_parts (is_low x) (are_ascii xs) e in
    behind_low x (xs ++ ys) parts.0 ∙ behind_front xs ys parts.1

abbrev IsLow : ℕ → Type 0
IsLow x = is_low x ≡ true

space_low : (x : ℕ) → is_space x ≡ true → IsLow x
space_low x = last_is IsLow x 13 _ (last_is IsLow x 10 _ (last_is IsLow x 9 _ (λ e. subst IsLow (sym (eqb-true x 32 e)) refl) refl) refl) refl

operator_low : (x : ℕ) → is_operator x ≡ true → IsLow x
operator_low x =
    last_is IsLow x 44 _ (last_is IsLow x 58 _ (last_is IsLow x 93 _ (last_is IsLow x 91 _ (last_is IsLow x 125 _ (λ e. subst IsLow (sym (eqb-true x 123 e)) refl) refl) refl) refl) refl) refl

pub ascii_blank_at : (d : List ℕ) (i : ℕ) → i < length d → is_space (get_or d i 0) ≡ true → are_ascii (drop (i + 1) d) ≡ are_ascii (drop i d)
ascii_blank_at d i lt h = sym (ap are_ascii (drop_more d i 0 lt) ∙ behind_low (get_or d i 0) (drop (i + 1) d) (space_low (get_or d i 0) h))

pub ascii_operator : (text behind rest : List ℕ) (x byte : ℕ) → are_ascii behind ≡ are_ascii text → behind ≡ x ∷ rest → x ≡ byte → is_operator byte ≡ true → are_ascii text ≡ are_ascii rest
ascii_operator text behind rest x byte blanks is same h =
    sym blanks ∙ ap are_ascii (is ∙ ap (λ y. y ∷ rest) same) ∙ behind_low byte rest (operator_low byte h)

-- ---- strings

plain_byte : (p : Bool) (x n : ℕ) (xs : List ℕ) → is_plain_ascii x ≡ p → are_ascii (take n xs) ≡ true → are_ascii (take (cond p (suc n) 0) (x ∷ xs)) ≡ true
plain_byte false x n xs e ih = refl
plain_byte true x n xs e ih = behind_low x (take n xs) (and_parts _ (is_low x) e).1 ∙ ih

plain_ascii : (xs : List ℕ) → are_ascii (take (prefix_len is_plain_ascii xs) xs) ≡ true
plain_ascii [] = refl
plain_ascii (x ∷ xs) =
    let next : suc (prefix_len is_plain_ascii xs) ≡ 1 + prefix_len is_plain_ascii xs = omega arith in
    subst (λ n. are_ascii (take (cond (is_plain_ascii x) n 0) (x ∷ xs)) ≡ true) next
    (plain_byte (is_plain_ascii x) x (prefix_len is_plain_ascii xs) xs refl (plain_ascii xs))

pub ascii_string : (text behind inside front back rest : List ℕ) (first last n : ℕ) → are_ascii behind ≡ are_ascii text → behind ≡ first ∷ inside → first ≡ 34
    → n ≡ prefix_len is_plain_ascii inside → front ≡ take n inside → inside ≡ front ++ back → back ≡ last ∷ rest → last ≡ 34 → are_ascii text ≡ are_ascii rest
ascii_string text behind inside front back rest first last n blanks is opens count taken whole ends closes =
    let plain : are_ascii front ≡ true = ap are_ascii (taken ∙ ap (λ m. take m inside) count) ∙ plain_ascii inside in
    let shape : behind ≡ 34 ∷ front ++ 34 ∷ rest = is ∙ ap₂ (λ x t. x ∷ t) opens (whole ∙ ap (λ t. front ++ t) (ends ∙ ap (λ x. x ∷ rest) closes)) in
    sym blanks ∙ ap are_ascii shape ∙ behind_low 34 (front ++ 34 ∷ rest) refl ∙ behind_front front (34 ∷ rest) plain ∙ behind_low 34 rest refl

-- ---- numbers

low_all : (xs : List ℕ) → ((i : ℕ) → get_or xs i 0 < 128) → are_ascii xs ≡ true
low_all [] h = refl
low_all (x ∷ xs) h = behind_low x xs (lt-ltb x 128 (h zero)) ∙ low_all xs (λ i. h (suc i))

pub ascii_digits : (text rest : List ℕ) (n : ℕ) → text ≡ decimal n ++ rest → n < 2 ^ 63 → are_ascii text ≡ are_ascii rest
ascii_digits text rest n is fits = ap are_ascii is ∙ behind_front (decimal n) rest (low_all (decimal n) (IsAscii-decimal n (omega arith)))

pub ascii_negative : (text behind digits rest : List ℕ) (first n : ℕ) → are_ascii behind ≡ are_ascii text → behind ≡ first ∷ digits → first ≡ 45 → digits ≡ decimal n ++ rest → n < 2 ^ 63
    → are_ascii text ≡ are_ascii rest
ascii_negative text behind digits rest first n blanks is minus whole fits =
    sym blanks ∙ ap are_ascii (is ∙ ap (λ x. x ∷ digits) minus) ∙ behind_low 45 digits refl ∙ ascii_digits digits rest n whole fits
