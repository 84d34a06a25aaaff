-- Places at which nothing is kept.
use Rattle.std.proofs.Common.{◌≡◌, ℕ, zero, suc, List, [], ◌∷◌, ◌++◌, length, map, take, replicate, None, refl, ap, ◌∙◌, arith}
use Rattle.std.proofs.lemmas.List.{append_assoc, length-append}
use Rattle.label_scope.specs.declared.footprint.Footprint.{Footprint}
use Rattle.plan_cache.specs.Nodes.{Kept}
use Rattle.plan_cache.specs.KeptRows.{rows_kept, AddsFree}
use Rattle.plan_cache.specs.Shelves.{IsShelf, relations_kept}

append_none : (xs : List Kept) → xs ≡ xs ++ []
append_none [] = refl
append_none (x ∷ xs) = ap (λ v. x ∷ v) (append_none xs)

pub no_more : (kept : List Kept) → AddsFree kept kept
no_more kept = (0, append_none kept)

one_free_more : (n : ℕ) → (let x : List Kept = replicate n None in x) ++ None ∷ [] ≡ None ∷ replicate n None
one_free_more zero = refl
one_free_more (suc n) = ap (λ v. None ∷ v) (one_free_more n)

pub one_more_free : (old mid : List Kept) → AddsFree old mid → AddsFree old (mid ++ None ∷ [])
one_more_free old mid h = (suc h.0, ap (λ v. v ++ None ∷ []) h.1 ∙ append_assoc old (replicate h.0 None) (None ∷ []) ∙ ap (λ v. old ++ v) (one_free_more h.0))

rows_free : (old : List Kept) (n : ℕ) → rows_kept (old ++ replicate n None) ≡ rows_kept old
rows_free [] zero = refl
rows_free [] (suc n) = let r = rows_free [] n in omega arith
rows_free (k ∷ old) n = let r = rows_free old n in omega arith

pub rows_stay : (old new : List Kept) → AddsFree old new → rows_kept new ≡ rows_kept old
rows_stay old new h = ap rows_kept h.1 ∙ rows_free old h.0

relations_free : (old : List Kept) (n : ℕ) → relations_kept (old ++ replicate n None) ≡ relations_kept old
relations_free [] zero = refl
relations_free [] (suc n) = let r = relations_free [] n in omega arith
relations_free (k ∷ old) n = let r = relations_free old n in omega arith

-- the first so many, each seen by itself
pub map_take : {X Y : Type 0} (f : X → Y) (n : ℕ) (xs : List X) → map f (take n xs) ≡ take n (map f xs)
map_take f zero xs = refl
map_take f (suc n) [] = refl
map_take f (suc n) (x ∷ xs) = ap (λ v. f x ∷ v) (map_take f n xs)

pub one_longer : (old new : List Kept) (feet more : List Footprint) (f : Footprint) → length old ≡ length feet → new ≡ old ++ None ∷ [] → more ≡ feet ++ f ∷ [] → length new ≡ length more
one_longer old new feet more f e g h =
    let l = ap length g in
    let m = ap length h in
    let a = length-append old (None ∷ []) in
    let b = length-append feet (f ∷ []) in
    omega arith

-- taken back to those before
take_first : (old more : List Kept) (n : ℕ) → n ≡ length old → take n (old ++ more) ≡ old
take_first [] more zero e = refl
take_first [] more (suc n) e = absurd (let none : ⊥ = omega arith in none)
take_first (k ∷ old) more zero e = absurd (let none : ⊥ = omega arith in none)
take_first (k ∷ old) more (suc n) e = ap (λ v. k ∷ v) (take_first old more n (omega arith))

pub taken_back : (old new : List Kept) (n : ℕ) → AddsFree old new → n ≡ length old → take n new ≡ old
taken_back old new n h e = ap (take n) h.1 ∙ take_first old (replicate h.0 None) n e

same_length : (n : ℕ) (feet : List Footprint) (kept : List Kept) → length kept ≡ length feet → length (take n kept) ≡ length (take n feet)
same_length zero feet kept e = refl
same_length (suc n) [] [] e = refl
same_length (suc n) [] (k ∷ kept) e = absurd (let none : ⊥ = omega arith in none)
same_length (suc n) (f ∷ feet) [] e = absurd (let none : ⊥ = omega arith in none)
same_length (suc n) (f ∷ feet) (k ∷ kept) e = ap suc (same_length n feet kept (omega arith))

pub shelf_cut : (feet : List Footprint) (kept : List Kept) (rows count n : ℕ) → IsShelf feet kept rows count → AddsFree (take n kept) kept → IsShelf (take n feet) (take n kept) rows count
shelf_cut feet kept rows count n s h = record {
  each = same_length n feet kept s.each;
  counted = s.counted ∙ rows_stay (take n kept) kept h;
  many = s.many ∙ ap relations_kept h.1 ∙ relations_free (take n kept) h.0;
  few = s.few;
}
