-- A line of tokens with a blank between has those tokens, and reads as their form says.
use Rattle.std.proofs.Common.{◌≡◌, inr, ⊎_elim, ℕ, zero, suc, ◌+◌, ◌-◌, ◌*◌, ◌<◌, ◌≤◌, Bool, true, false, ◌&&◌, List, [], ◌∷◌, ◌++◌, length, take, drop, Option, Some, None, Ok, refl, sym, ap, subst, ◌∙◌, arith, length-append, true≢false}
use Rattle.std.specs.Prelude.{nat_eq, slice_index, if◌then◌else◌}
use Rattle.std.specs.List.{prefix_len, list_all}
use Rattle.std.proofs.lemmas.List.{drop_at}
use Rattle.std.proofs.lemmas.List.Folds.{list_all-append, list_all_at}
use Rattle.itpg_base.specs.declared.text_code.TextCode.{TextCode}
use Rattle.itpg_base.specs.declared.text_code.TextCode.TheVariants as codes_of
use Rattle.script_lex.specs.Bytes.{is_blank}
use Rattle.script_lex.specs.Lexemes.{Lexeme, AWord, ANumber, AQuote, AMark, written}
use Rattle.script_lex.specs.Lines.{Placed, AreBlank, IsNext, AreTokens}
use Rattle.script_lex.specs.Table.{first_token}
use Rattle.edit_reader.specs.Readings.{Reading}
use Rattle.edit_reader.specs.Forms.{form_of, parts_of}
use Rattle.edit_reader.specs.Faults.{without_end, is_silent, HasFarNumber, HasLongName, HasFault}
use Rattle.edit_reader.specs.Lines.{TakenAs, LineOf}
use Rattle.itpg_run.proofs.SpelledTokens.{behind_text, places, line_text, line_places, is_inside, IsSpelled, AllSpelled}
use Rattle.std.proofs.lemmas.Option.{none-some}

drop_drop : (n : ℕ) (m : ℕ) (xs : List ℕ) → drop (n + m) xs ≡ drop m (drop n xs)
drop_drop zero m xs = ap (λ k. drop k xs) (let e : 0 + m ≡ m = omega arith in e)
drop_drop (suc n) m [] = by_nil (suc n + m) ∙ sym (by_nil m)
  where
    by_nil : (k : ℕ) → drop k (let none : List ℕ = [] in none) ≡ []
    by_nil zero = refl
    by_nil (suc k) = refl
drop_drop (suc n) m (x ∷ xs) = ap (λ k. drop k (x ∷ xs)) (let e : suc n + m ≡ suc (n + m) = omega arith in e) ∙ drop_drop n m xs

pub are_tokens : (line : List ℕ) (at : ℕ) (ls : List Lexeme) → AllSpelled ls → drop at line ≡ behind_text ls → AreTokens line at (places at ls) None
are_tokens line at [] h e = subst AreBlank (sym e) refl
are_tokens line at (l ∷ ls) h e =
    let behind : drop (at + 1) line ≡ written l ++ behind_text ls = drop_drop at 1 line ∙ ap (drop 1) e in
    let rest : drop (at + 1 + length (written l)) line ≡ behind_text ls =
    drop_drop (at + 1) (length (written l)) line ∙ ap (drop (length (written l))) behind ∙ drop_at (written l) (behind_text ls) (length (written l)) refl in
    let next : IsNext line at (record { from = at + 1; to = at + 1 + length (written l); what = l }) = record {
      from = ap (λ k. at + (1 + k)) (sym (h.0.begins (behind_text ls))) ∙ ap (λ (b : List ℕ). at + prefix_len is_blank b) (sym e);
      what = ap first_token behind ∙ h.0.token ls;
      to = refl;
    } in
    (next, are_tokens line (at + 1 + length (written l)) ls h.1 rest)

pub line_tokens : (first : Lexeme) (ls : List Lexeme) → IsSpelled first → AllSpelled ls → AreTokens (line_text first ls) 0 (line_places first ls) None
line_tokens first ls f h =
    let next : IsNext (line_text first ls) 0 (record { from = 0; to = length (written first); what = first }) = record {
      from = ap (λ k. 0 + k) (sym (f.begins (behind_text ls)));
      what = f.token ls;
      to = let e : length (written first) ≡ 0 + length (written first) = omega arith in e;
    } in
    (next, are_tokens (line_text first ls) (length (written first)) ls h (drop_at (written first) (behind_text ls) (length (written first)) refl))

-- none of its bytes is a CR
behind_inside : (ls : List Lexeme) → AllSpelled ls → list_all is_inside (behind_text ls) ≡ true
behind_inside [] h = refl
behind_inside (l ∷ ls) h = list_all-append is_inside (written l) (behind_text ls) ∙ ap (λ b. b && list_all is_inside (behind_text ls)) h.0.inside ∙ behind_inside ls h.1

line_inside : (first : Lexeme) (ls : List Lexeme) → IsSpelled first → AllSpelled ls → list_all is_inside (line_text first ls) ≡ true
line_inside first ls f h = list_all-append is_inside (written first) (behind_text ls) ∙ ap (λ b. b && list_all is_inside (behind_text ls)) f.inside ∙ behind_inside ls h

whole_line : (line : List ℕ) → 0 < length line → list_all is_inside line ≡ true → without_end line ≡ line
whole_line line some h = by_test (nat_eq (slice_index line (length line - 1)) 13) refl
  where
    by_test : (b : Bool) → nat_eq (slice_index line (length line - 1)) 13 ≡ b → (if b then take (length line - 1) line else line) ≡ line
    by_test true e = absurd (true≢false (sym h ∙ list_all_at is_inside line (length line - 1) 0 (omega (arith, some)) (let f : is_inside (slice_index line (length line - 1)) ≡ false = rw e refl in f)))
    by_test false e = refl

-- how long the line is
behind_short : (ls : List Lexeme) → AllSpelled ls → length (behind_text ls) ≤ 67 * length ls
behind_short [] h = omega arith
behind_short (l ∷ ls) h = omega (arith, length-append (written l) (behind_text ls), h.0.short, behind_short ls h.1)

pub line_short : (first : Lexeme) (ls : List Lexeme) → IsSpelled first → AllSpelled ls → length ls ≤ 6 → length (line_text first ls) ≤ 500
line_short first ls f h few = omega (arith, length-append (written first) (behind_text ls), f.short, behind_short ls h, few)

count_places : (at : ℕ) (ls : List Lexeme) → length (places at ls) ≡ length ls
count_places at [] = refl
count_places at (l ∷ ls) = ap suc (count_places (at + 1 + length (written l)) ls)

-- none of the parts is too long or too far
no_far : (ls : List Lexeme) → AllSpelled ls → HasFarNumber ls → ⊥
no_far [] h far = far
no_far (AWord word ∷ ls) h far = no_far ls h.1 far
no_far (AQuote text ∷ ls) h far = no_far ls h.1 far
no_far (AMark mark ∷ ls) h far = no_far ls h.1 far
no_far (ANumber number ∷ ls) h far = ⊎_elim (λ f. f h.0.near) (no_far ls h.1) far

no_long : (ls : List Lexeme) → AllSpelled ls → HasLongName ls → ⊥
no_long [] h long = long
no_long (AWord word ∷ ls) h long = ⊎_elim (λ f. omega (arith, f, h.0.near)) (no_long ls h.1) long
no_long (AQuote text ∷ ls) h long = ⊎_elim (λ f. omega (arith, f, h.0.near)) (no_long ls h.1) long
no_long (ANumber number ∷ ls) h long = no_long ls h.1 long
no_long (AMark mark ∷ ls) h long = no_long ls h.1 long

-- a line has one list of tokens and one end
abbrev pub OneList : Type 0
OneList = (line : List ℕ) (at : ℕ) (xs ys : List Placed) (e f : Option TextCode) → AreTokens line at xs e → AreTokens line at ys f → (xs ≡ ys) × (e ≡ f)

-- a line with these tokens has no fault
pub no_fault : OneList → (line : List ℕ) (tokens : List Placed) (reading : Reading) → AreTokens line 0 tokens None → length line ≤ 65536 → length tokens ≤ 4096
    → form_of line tokens ≡ Some reading → (HasFarNumber (parts_of tokens) → ⊥) → (HasLongName (parts_of tokens) → ⊥) → (code : TextCode) → HasFault line code → ⊥
no_fault one line tokens reading are few count form near short codes_of.Long h = omega (arith, few, h)
no_fault one line tokens reading are few count form near short codes_of.Byte h =
    none-some codes_of.Byte ((one line 0 tokens h.1.0 None h.1.1.0 are h.1.1.1.0).1 ∙ h.1.1.1.1)
no_fault one line tokens reading are few count form near short codes_of.Tokens h =
    let same : tokens ≡ h.1.0 = (one line 0 tokens h.1.0 None h.1.1.0 are h.1.1.1.0).0 in
    let many : 4096 < length h.1.0 = h.1.1.1.1 in
    omega (arith, count, many, ap length same)
no_fault one line tokens reading are few count form near short codes_of.Text h =
    let same = one line 0 tokens h.1.0 None h.1.1.0 are h.1.1.1.0 in
    ⊎_elim (λ e. none-some codes_of.Text (same.1 ∙ e)) (λ e. some_none (sym form ∙ ap (form_of line) same.0 ∙ e)) h.1.1.1.1
  where
    some_none : Some reading ≡ None → ⊥
    some_none e = let none : ⊥ = cc in none
no_fault one line tokens reading are few count form near short codes_of.Number h =
    near (subst (λ (ts : List Placed). HasFarNumber (parts_of ts)) (sym (one line 0 tokens h.1.0 None h.1.1.0 are h.1.1.1.0).0) h.1.1.1.1)
no_fault one line tokens reading are few count form near short codes_of.Name h =
    short (subst (λ (ts : List Placed). HasLongName (parts_of ts)) (sym (one line 0 tokens h.1.0 None h.1.1.0 are h.1.1.1.0).0) h.1.1.1.1)
no_fault one line tokens reading are few count form near short codes_of.Deep h = h
no_fault one line tokens reading are few count form near short codes_of.Range h = h
no_fault one line tokens reading are few count form near short codes_of.Names h = h
no_fault one line tokens reading are few count form near short codes_of.Terms h = h

-- so it reads as the form of the tokens says
pub line_reads : OneList → (first : Lexeme) (ls : List Lexeme) (reading : Reading) → IsSpelled first → AllSpelled ls → length ls ≤ 6 → is_silent (line_text first ls) ≡ false
    → form_of (line_text first ls) (line_places first ls) ≡ Some reading → parts_of (line_places first ls) ≡ ls → LineOf (line_text first ls) (Ok reading)
line_reads one first ls reading f h few loud form parts =
    let line = line_text first ls in
    let tokens = line_places first ls in
    let are = line_tokens first ls f h in
    let short = line_short first ls f h few in
    let count : length tokens ≤ 7 = omega (arith, count_places (length (written first)) ls, few) in
    let some : 0 < length line = longer line loud in
    let whole = whole_line line some (line_inside first ls f h) in
    let clean = no_fault one line tokens reading are (omega (arith, short)) (omega (arith, count)) form
    (λ far. no_far ls h (subst HasFarNumber parts far)) (λ long. no_long ls h (subst HasLongName parts long)) in
    subst (λ (l : List ℕ). TakenAs l (Ok reading)) (sym whole) (clean, inr (loud, (tokens, (None, (are, form)))))
  where
    longer : (l : List ℕ) → is_silent l ≡ false → 0 < length l
    longer [] e = absurd (true≢false e)
    longer (b ∷ bs) e = omega arith
