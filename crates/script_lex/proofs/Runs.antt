-- The run of elements that pass a test, at the front of a list.
use Rattle.std.proofs.Common.{◌≡◌, ℕ, ◌<◌, ◌≤◌, List, [], ◌∷◌, Bool, true, false, ◌&&◌, length, refl, sym, ap, ◌∙◌, arith}
use Rattle.std.specs.List.{prefix_len, take_while, list_all}
use Rattle.script_lex.specs.Bytes.{begins_with}
use Rattle.std.proofs.lemmas.List.{take_all}
use Rattle.std.proofs.lemmas.List.Sums.{take_while-cons}

-- each element of the run passes
pub run_passes : (p : ℕ → Bool) (xs : List ℕ) → list_all p (take_while p xs) ≡ true
run_passes p [] = refl
run_passes p (x ∷ xs) = by_test (p x) refl (run_passes p xs)
  where
    by_test : (t : Bool) → p x ≡ t → list_all p (take_while p xs) ≡ true → list_all p (take_while p (x ∷ xs)) ≡ true
    by_test true e rest = ap (list_all p) (take_while-cons p x xs) ∙ rw e (ap (λ t. t && list_all p (take_while p xs)) e ∙ rest)
    by_test false e rest = ap (list_all p) (take_while-cons p x xs) ∙ rw e refl

-- all elements pass where the run is the list
pub run_whole : (p : ℕ → Bool) (xs : List ℕ) → length xs ≤ prefix_len p xs → list_all p xs ≡ true
run_whole p xs h = sym (ap (list_all p) (take_all (prefix_len p xs) xs h)) ∙ run_passes p xs

-- and only there
pub whole_run : (p : ℕ → Bool) (xs : List ℕ) → list_all p xs ≡ true → prefix_len p xs ≡ length xs
whole_run p [] h = refl
whole_run p (x ∷ xs) h = by_test (p x) refl (whole_run p xs)
  where
    by_test : (t : Bool) → p x ≡ t → (list_all p xs ≡ true → prefix_len p xs ≡ length xs) → prefix_len p (x ∷ xs) ≡ length (x ∷ xs)
    by_test true e rest = let same : prefix_len p xs ≡ length xs = rest (sym (ap (λ t. t && list_all p xs) e) ∙ h) in rw e (omega arith)
    by_test false e rest = absurd (let f : false ≡ true = sym (ap (λ t. t && list_all p xs) e) ∙ h in let none : ⊥ = cc in none)

pub run_short : (p : ℕ → Bool) (xs : List ℕ) → prefix_len p xs < length xs → list_all p xs ≡ false
run_short p xs h = by_test (list_all p xs) refl
  where
    by_test : (t : Bool) → list_all p xs ≡ t → list_all p xs ≡ false
    by_test false e = e
    by_test true e = let whole = whole_run p xs e in absurd (omega arith)

-- the run has an element where the first one passes
pub run_some : (p : ℕ → Bool) (xs : List ℕ) → begins_with p xs ≡ true → 0 < length (take_while p xs)
run_some p [] e = absurd (let none : ⊥ = cc in none)
run_some p (x ∷ xs) e = rw (take_while-cons p x xs, e) (omega arith)
