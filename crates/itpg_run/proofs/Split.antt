-- Bytes as whole lines and a rest.
use Rattle.std.proofs.Common.{◌≡◌, ℕ, List, [], ◌∷◌, ◌++◌, false, nat_eq, refl, true, zero, suc, ap, ◌∙◌, sym, append_assoc, ◌+◌, ◌<◌, ◌≤◌, length, take, drop, get_or, slice_index, Some, None, ◌≢◌, subst, add-one, drop-cons, take-append-drop, arith}
use Rattle.std.specs.declared.option.Option.{Option}
use Rattle.std.proofs.lemmas.Bool.{eqb-true, false_from_ne_true}
use Rattle.std.proofs.lemmas.List.{take_all}
use Rattle.memchr.specs.Find.{NoneBefore, Passes, IsFirstByte, is_byte}
use Rattle.itpg_run.specs.Split.{NoEnd, NoEnds, joined, last_line}
use Rattle.itpg_run.specs.Lines.{lines, whole, before_lines, before_some}

pub NoEnd-append : (xs ys : List ℕ) → NoEnd xs → NoEnd ys → NoEnd (xs ++ ys)
NoEnd-append [] ys h e = e
NoEnd-append (x ∷ xs) ys h e = (h.0, NoEnd-append xs ys h.1 e)

pub NoEnds-push : (ls : List (List ℕ)) (l : List ℕ) → NoEnds ls → NoEnd l → NoEnds (ls ++ l ∷ [])
NoEnds-push [] l h e = (e, tt)
NoEnds-push (x ∷ xs) l h e = (h.0, NoEnds-push xs l h.1 e)

pub joined-push : (ls : List (List ℕ)) (l : List ℕ) → joined (ls ++ l ∷ []) ≡ joined ls ++ (l ++ 10 ∷ [])
joined-push [] l = refl
joined-push (x ∷ xs) l = ap (λ r. x ++ (10 ∷ r)) (joined-push xs l) ∙ sym (append_assoc x (10 ∷ joined xs) (l ++ 10 ∷ []))

pub lines-line : (l bs : List ℕ) → NoEnd l → lines (l ++ (10 ∷ bs)) ≡ l ∷ lines bs
unfolding lines before_lines
lines-line [] bs h = refl
lines-line (b ∷ l) bs h = rw h.0 (ap (before_lines b) (lines-line l bs h.1))

pub lines-rest : (r : List ℕ) → NoEnd r → lines r ≡ last_line r
unfolding lines before_lines
lines-rest [] h = refl
lines-rest (b ∷ []) h = rw h.0 refl
lines-rest (b ∷ c ∷ r) h = rw h.0 (ap (before_lines b) (lines-rest (c ∷ r) h.1))

pub lines-joined : (ls : List (List ℕ)) (bs : List ℕ) → NoEnds ls → lines (joined ls ++ bs) ≡ ls ++ lines bs
lines-joined [] bs hs = refl
lines-joined (l ∷ ls) bs hs = ap lines (append_assoc l (10 ∷ joined ls) bs) ∙ lines-line l (joined ls ++ bs) hs.0 ∙ ap (λ t. l ∷ t) (lines-joined ls bs hs.1)

whole-line : (l bs : List ℕ) → NoEnd l → whole (l ++ (10 ∷ bs)) ≡ l ++ (10 ∷ whole bs)
unfolding whole before_some
whole-line [] bs h = refl
whole-line (b ∷ []) bs h = rw h.0 refl
whole-line (b ∷ c ∷ l) bs h = rw h.0 (ap (before_some b) (whole-line (c ∷ l) bs h.1))

pub whole-rest : (r : List ℕ) → NoEnd r → whole r ≡ []
unfolding whole before_some
whole-rest [] h = refl
whole-rest (b ∷ r) h = rw h.0 (ap (before_some b) (whole-rest r h.1))

pub whole-joined : (ls : List (List ℕ)) (bs : List ℕ) → NoEnds ls → whole (joined ls ++ bs) ≡ joined ls ++ whole bs
whole-joined [] bs hs = refl
whole-joined (l ∷ ls) bs hs = ap whole (append_assoc l (10 ∷ joined ls) bs) ∙ whole-line l (joined ls ++ bs) hs.0 ∙ ap (λ t. l ++ (10 ∷ t)) (whole-joined ls bs hs.1) ∙ sym (append_assoc l (10 ∷ joined ls) (whole bs))

no_end_before : (k : ℕ) (xs : List ℕ) → k ≤ length xs → ((j : ℕ) → j < k → nat_eq (slice_index xs j) 10 ≡ false) → NoEnd (take k xs)
no_end_before zero xs h before = tt
no_end_before (suc k) [] h before = tt
no_end_before (suc k) (x ∷ xs) h before = (before 0 (omega arith), no_end_before k xs (omega arith) (λ j lt. before (suc j) (omega arith)))

-- a list in three parts: what comes before a line end, the line end, and the rest
at_end : (xs : List ℕ) (k : ℕ) → k < length xs → nat_eq (slice_index xs k) 10 ≡ true → (take k xs ++ (10 ∷ [])) ++ drop (k + 1) xs ≡ xs
at_end xs k h e =
    let is : get_or xs k 0 ≡ 10 = eqb-true _ 10 e in
    append_assoc (take k xs) (10 ∷ []) (drop (k + 1) xs) ∙ ap (λ b. take k xs ++ (b ∷ drop (k + 1) xs)) (sym is) ∙ (rw (add-one, ← drop-cons xs k 0 h) (take-append-drop k xs))

-- before the first line end there is none, and behind it is the rest
pub first_end : (xs : List ℕ) (k : ℕ) → NoneBefore (Passes (is_byte 10) xs) 0 (length xs) k × Passes (is_byte 10) xs k → NoEnd (take k xs) × ((take k xs ++ (10 ∷ [])) ++ drop (k + 1) xs ≡ xs)
first_end xs k h = (no_end_before k xs (let high = h.0.high in omega arith) (λ j lt. false_from_ne_true _ (h.0.before j (omega arith) lt)), at_end xs k h.0.high h.1)

-- where no line end is found, there is none
pub no_end : (xs : List ℕ) (found : Option ℕ) → IsFirstByte (is_byte 10) xs found → ((k : ℕ) → found ≢ Some k) → NoEnd xs
no_end xs None h none = subst NoEnd (take_all (length xs) xs (omega arith)) (no_end_before (length xs) xs (omega arith) (λ j lt. false_from_ne_true _ (h j (omega arith) lt)))
no_end xs (Some k) h none = absurd (none k refl)
