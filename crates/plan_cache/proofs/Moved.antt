-- What is kept, moved to other places.
use Rattle.std.proofs.Common.{◌≡◌, ◌≢◌, ℕ, zero, suc, ◌+◌, ◌<◌, ◌≤◌, List, [], ◌∷◌, length, replicate, get_or, slice_get, slice_set, Some, None, inl, inr, ◌⊎◌, Result, Ok, Err, refl, sym, ap, subst, ◌∙◌, arith, true≢false}
use Rattle.std.specs.Prelude.{IsOk, OnOk}
use Rattle.relation_rows.specs.declared.rows.Row.{Row}
use Rattle.plan_cache.specs.declared.operations.PlanNo.{PlanNo}
use Rattle.plan_cache.specs.declared.nodes.TheConstants.{MAX_NODES}
use Rattle.plan_cache.specs.declared.shelf.TheConstants.{MAX_KEPT_ROWS}
use Rattle.plan_cache.specs.Nodes.{Kept}
use Rattle.plan_cache.specs.KeptRows.{rows_in, rows_kept, AddsFree}
use Rattle.plan_cache.specs.Former.{number_at, kept_at, AreFormerApart, IsMoving}
use Rattle.plan_cache.proofs.Forgetting.{length_set}

-- ---- places of a list

pub at_place : (kept : List Kept) (place : ℕ) (x : Kept) → slice_get kept place ≡ Some x → kept_at kept place ≡ x
at_place [] place x e = cc
at_place (k ∷ kept) zero x e = cc
at_place (k ∷ kept) (suc place) x e = at_place kept place x e

pub at_behind : (kept : List Kept) (place : ℕ) → length kept ≤ place → kept_at kept place ≡ None
at_behind [] place l = refl
at_behind (k ∷ kept) zero l = absurd (let none : ⊥ = omega arith in none)
at_behind (k ∷ kept) (suc place) l = at_behind kept place (omega arith)

pub stands_there : (kept : List Kept) (place : ℕ) (rows : List Row) → kept_at kept place ≡ Some rows → slice_get kept place ≡ Some (Some rows)
stands_there [] place rows e = cc
stands_there (k ∷ kept) zero rows e = ap Some e
stands_there (k ∷ kept) (suc place) rows e = stands_there kept place rows e

pub place_within : (kept : List Kept) (place : ℕ) (x : Kept) → slice_get kept place ≡ Some x → place < length kept
place_within [] place x e = cc
place_within (k ∷ kept) zero x e = omega arith
place_within (k ∷ kept) (suc place) x e = let r = place_within kept place x e in omega arith

set_behind : (kept : List Kept) (place : ℕ) (x : Kept) → length kept ≤ place → slice_set kept place x ≡ kept
set_behind [] place x l = refl
set_behind (k ∷ kept) zero x l = absurd (let none : ⊥ = omega arith in none)
set_behind (k ∷ kept) (suc place) x l = ap (λ v. k ∷ v) (set_behind kept place x (omega arith))

set_same : (kept : List Kept) (place : ℕ) (x : Kept) → slice_get kept place ≡ Some x → slice_set kept place x ≡ kept
set_same [] place x e = refl
set_same (k ∷ kept) zero x e = ap (λ (v : Kept). v ∷ kept) (let same : x ≡ k = cc in same)
set_same (k ∷ kept) (suc place) x e = ap (λ v. k ∷ v) (set_same kept place x e)

get_set : (kept : List Kept) (place : ℕ) (x : Kept) → place < length kept → slice_get (slice_set kept place x) place ≡ Some x
get_set [] place x l = absurd (let none : ⊥ = omega arith in none)
get_set (k ∷ kept) zero x l = refl
get_set (k ∷ kept) (suc place) x l = get_set kept place x (omega arith)

get_other : (kept : List Kept) (place k : ℕ) (x : Kept) → k ≢ place → slice_get (slice_set kept place x) k ≡ slice_get kept k
get_other [] place k x d = refl
get_other (j ∷ kept) zero zero x d = absurd (d refl)
get_other (j ∷ kept) zero (suc k) x d = refl
get_other (j ∷ kept) (suc place) zero x d = refl
get_other (j ∷ kept) (suc place) (suc k) x d = get_other kept place k x (λ e. d (ap suc e))

at_other : (kept : List Kept) (place k : ℕ) (x : Kept) → k ≢ place → kept_at (slice_set kept place x) k ≡ kept_at kept k
at_other [] place k x d = refl
at_other (j ∷ kept) zero zero x d = absurd (d refl)
at_other (j ∷ kept) zero (suc k) x d = refl
at_other (j ∷ kept) (suc place) zero x d = refl
at_other (j ∷ kept) (suc place) (suc k) x d = at_other kept place k x (λ e. d (ap suc e))

-- ---- how many rows are kept

rows_taken : (kept : List Kept) (place : ℕ) → rows_kept (slice_set kept place None) + rows_in (kept_at kept place) ≡ rows_kept kept
rows_taken [] place = refl
rows_taken (k ∷ kept) zero = omega arith
rows_taken (k ∷ kept) (suc place) = let r = rows_taken kept place in omega arith

rows_put : (kept : List Kept) (place : ℕ) (x : Kept) → slice_get kept place ≡ Some None → rows_kept (slice_set kept place x) ≡ rows_kept kept + rows_in x
rows_put [] place x e = cc
rows_put (k ∷ kept) zero x e = let none : k ≡ None = cc in let is : rows_in k ≡ 0 = ap rows_in none in omega arith
rows_put (k ∷ kept) (suc place) x e = let r = rows_put kept place x e in omega arith

-- what is moved has room where all that is kept at both had
pub room_for : (from to : List Kept) (place : ℕ) (rows : List Row) → slice_get from place ≡ Some (Some rows) → rows_kept from + rows_kept to ≤ MAX_KEPT_ROWS → rows_kept to + length rows ≤ MAX_KEPT_ROWS
room_for from to place rows e room =
    let r = rows_taken from place in
    let is : rows_in (kept_at from place) ≡ length rows = ap rows_in (at_place from place (Some rows) e) in
    omega arith

-- ---- one move

-- where there is no such place, or nothing is kept there, nothing changes
pub unmoved_behind : (from to : List Kept) (was place : ℕ) → length from ≤ was → slice_get to place ≡ Some None → (from ≡ slice_set from was None) × (to ≡ slice_set to place (kept_at from was))
unmoved_behind from to was place l e = (sym (set_behind from was None l), sym (ap (slice_set to place) (at_behind from was l) ∙ set_same to place None e))

pub unmoved_free : (from to : List Kept) (was place : ℕ) → slice_get from was ≡ Some None → slice_get to place ≡ Some None → to ≡ slice_set to place (kept_at from was)
unmoved_free from to was place f e = sym (ap (slice_set to place) (at_place from was None f) ∙ set_same to place None e)

-- ---- all moves

free_there : (n k : ℕ) → k < length (let x : List Kept = replicate n None in x) → slice_get (let x : List Kept = replicate n None in x) k ≡ Some None
free_there zero k l = absurd (let none : ⊥ = omega arith in none)
free_there (suc n) zero l = refl
free_there (suc n) (suc k) l = free_there n k (omega arith)

rows_of_free : (n : ℕ) → rows_kept (replicate n None) ≡ 0
rows_of_free zero = refl
rows_of_free (suc n) = let r = rows_of_free n in omega arith

pub moving_first : (former : List PlanNo) (was to : List Kept) → AddsFree [] to → rows_kept was ≤ MAX_KEPT_ROWS → IsMoving 0 former was was to
moving_first former was to free room = record {
  done = λ k l. absurd (let none : ⊥ = omega arith in none);
  rest = λ k from l. subst (λ (v : List Kept). slice_get v k ≡ Some None) (sym free.1) (free_there free.0 k (subst (λ (v : List Kept). k < length v) free.1 l));
  left = λ w not. refl;
  each = refl;
  room = let none : rows_kept to ≡ 0 = ap rows_kept free.1 ∙ rows_of_free free.0 in omega arith;
}

low_or_high : (m k : ℕ) → (k < m) ⊎ (m ≤ k)
low_or_high zero k = inr (omega arith)
low_or_high (suc m) zero = inl (omega arith)
low_or_high (suc m) (suc k) = elim (low_or_high m k) [ inl h ↦ inl (omega arith) | inr h ↦ inr (omega arith) ]

last_or_before : (k n : ℕ) → k < n + 1 → (k < n) ⊎ (k ≡ n)
last_or_before k n l = elim (low_or_high n k) [ inl h ↦ inl h | inr h ↦ inr (omega arith) ]

module _ (n : ℕ) (former : List PlanNo) (was from to : List Kept) (moving : IsMoving n former was from to) (within : n < length to) (long : n < length former) (apart : AreFormerApart (length was) former) where
  -- what is moved now is what was kept there at first
  kept_yet : kept_at from (number_at former n) ≡ kept_at was (number_at former n)
  kept_yet = elim (low_or_high (length was) (number_at former n)) [
    | inl low ↦ moving.left (number_at former n) (λ k l e. (
        let one = apart k n (omega arith) long e (subst (λ (w : ℕ). w < length was) (sym e) low) in
        let none : ⊥ = omega arith in
        none))
    | inr high ↦ (let each = moving.each in
        at_behind from (number_at former n) (omega arith) ∙ sym (at_behind was (number_at former n) high))
  ]

  pub moving_next : (from_then to_then : List Kept) → from_then ≡ slice_set from (number_at former n) None → to_then ≡ slice_set to n (kept_at from (number_at former n)) → IsMoving (n + 1) former was from_then to_then
  moving_next from_then to_then e f = record {
    done = λ k l. subst (λ (v : List Kept). slice_get v k ≡ Some (kept_at was (number_at former k))) (sym f) (done_at k (last_or_before k n l));
    rest = λ k l in_range.
        let size = ap length f ∙ length_set to n (kept_at from (number_at former n)) in
        ap (λ (v : List Kept). slice_get v k) f ∙ get_other to n k (kept_at from (number_at former n)) (λ same. (let none : ⊥ = omega arith in none)) ∙ moving.rest k (omega arith) (omega arith);
    left = λ w not.
        ap (λ (v : List Kept). kept_at v w) e ∙ at_other from (number_at former n) w None (λ same. not n (omega arith) (sym same)) ∙ moving.left w (λ k l same. not k (omega arith) same);
    each = ap length e ∙ length_set from (number_at former n) None ∙ moving.each;
    room =
        let less = rows_taken from (number_at former n) in
        let more = rows_put to n (kept_at from (number_at former n)) (moving.rest n (omega arith) within) in
        let one = ap rows_kept e in
        let other = ap rows_kept f in
        let before = moving.room in
        omega arith;
  }
    where
      done_at : (k : ℕ) → (k < n) ⊎ (k ≡ n) → slice_get (slice_set to n (kept_at from (number_at former n))) k ≡ Some (kept_at was (number_at former k))
      done_at k (inl l) = get_other to n k (kept_at from (number_at former n)) (λ same. (let none : ⊥ = omega arith in none)) ∙ moving.done k l
      done_at k (inr same) = subst (λ (i : ℕ). slice_get (slice_set to n (kept_at from (number_at former n))) i ≡ Some (kept_at was (number_at former i))) (sym same)
          (get_set to n (kept_at from (number_at former n)) within ∙ ap Some kept_yet)

pub number_got : (former : List PlanNo) (k : ℕ) (d : PlanNo) → k < length former → (get_or former k d).0 ≡ number_at former k
number_got [] k d l = absurd (let none : ⊥ = omega arith in none)
number_got (x ∷ former) zero d l = refl
number_got (x ∷ former) (suc k) d l = number_got former k d (omega arith)

pub number_behind : (former : List PlanNo) (k : ℕ) → length former ≤ k → MAX_NODES ≡ number_at former k
number_behind [] k l = refl
number_behind (x ∷ former) zero l = absurd (let none : ⊥ = omega arith in none)
number_behind (x ∷ former) (suc k) l = number_behind former k (omega arith)

pub when_ok : {T E : Type 0} (result : Result T E) (P : Type 0) → IsOk result → OnOk result P → P
when_ok (Ok x) P is h = h
when_ok (Err e) P is h = absurd (true≢false (sym is))
