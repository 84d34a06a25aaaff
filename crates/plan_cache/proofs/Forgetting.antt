-- What a shelf forgets, place after place.
use Rattle.std.proofs.Common.{◌≡◌, ℕ, zero, suc, ◌+◌, ◌-◌, ◌<◌, ◌≤◌, Bool, false, List, [], ◌∷◌, ◌++◌, length, map, slice_get, slice_set, Option, Some, None, inl, inr, refl, sym, ap, subst, ◌∙◌, arith, true}
use Rattle.std.specs.Prelude.{IsSomeAnd}
use Rattle.std.proofs.lemmas.List.{length-append}
use Rattle.itpg_base.specs.declared.touch.Touch.{Touch}
use Rattle.relation_rows.specs.declared.rows.Row.{Row}
use Rattle.label_scope.specs.declared.footprint.Footprint.{Footprint}
use Rattle.label_scope.specs.Touching.{Meets}
use Rattle.plan_cache.specs.Nodes.{Kept}
use Rattle.plan_cache.specs.declared.shelf.TheConstants.{MAX_KEPT_ROWS}
use Rattle.plan_cache.specs.KeptRows.{rows_in, rows_kept, ForgetsAt, Forgets}
use Rattle.plan_cache.specs.Shelves.{Shelved, ForgetsFirst, IsShelf, IsForgetting, LosesAt, relations_in, relations_kept}

module _ (touch : Touch) where
  -- once all places are done, it forgets at each
  pub forgets_all : (n : ℕ) (feet : List Footprint) (old new : List Kept) → length feet ≤ n → length old ≡ length feet → ForgetsFirst n touch feet old new → Forgets touch feet old new
  forgets_all zero [] [] [] l e h = tt
  forgets_all zero [] [] (k ∷ new) l e h = cc
  forgets_all zero [] (o ∷ old) new l e h = absurd (let none : ⊥ = omega arith in none)
  forgets_all zero (f ∷ feet) old new l e h = absurd (let none : ⊥ = omega arith in none)
  forgets_all (suc n) [] [] [] l e h = tt
  forgets_all (suc n) [] [] (k ∷ new) l e h = h
  forgets_all (suc n) [] (o ∷ old) new l e h = h
  forgets_all (suc n) (f ∷ feet) [] new l e h = h
  forgets_all (suc n) (f ∷ feet) (o ∷ old) [] l e h = h
  forgets_all (suc n) (f ∷ feet) (o ∷ old) (k ∷ new) l e h = (h.0, forgets_all n feet old new (omega arith) (omega arith) h.1)

  -- one place more: what is kept there now is x
  pub forgets_next : (n : ℕ) (feet : List Footprint) (old new : List Kept) (f : Footprint) (o x : Kept) → ForgetsFirst n touch feet old new → slice_get feet n ≡ Some f → slice_get new n ≡ Some o
      → ((was : Kept) → slice_get old n ≡ Some was → was ≡ o → ForgetsAt touch f was x) → ForgetsFirst (suc n) touch feet old (slice_set new n x)
  forgets_next zero [] old new f o x h e d a = cc
  forgets_next zero (g ∷ feet) [] new f o x h e d a = absurd (let none : ⊥ = cc in none)
  forgets_next zero (g ∷ feet) (p ∷ old) [] f o x h e d a = absurd (let none : ⊥ = cc in none)
  forgets_next zero (g ∷ feet) (p ∷ old) (k ∷ new) f o x h e d a =
      let is : g ≡ f = cc in
      let was : p ≡ o = cc in
      (subst (λ (v : Footprint). ForgetsAt touch v p x) (sym is) (a p refl was), let rest : new ≡ old = cc in rest)
  forgets_next (suc n) [] old new f o x h e d a = cc
  forgets_next (suc n) (g ∷ feet) [] new f o x h e d a = h
  forgets_next (suc n) (g ∷ feet) (p ∷ old) [] f o x h e d a = h
  forgets_next (suc n) (g ∷ feet) (p ∷ old) (k ∷ new) f o x h e d a = (h.0, forgets_next n feet old new f o x h.1 e d a)

  -- nothing changes at the next place
  pub forgets_not : (n : ℕ) (feet : List Footprint) (old new : List Kept) (f : Footprint) → length new ≡ length feet → ForgetsFirst n touch feet old new → slice_get feet n ≡ Some f → ¬ Meets f touch → ForgetsFirst (suc n) touch feet old new
  forgets_not zero [] old new f l h e not = cc
  forgets_not zero (g ∷ feet) [] [] f l h e not = absurd (let none : ⊥ = omega arith in none)
  forgets_not zero (g ∷ feet) [] (k ∷ new) f l h e not = absurd (let none : ⊥ = cc in none)
  forgets_not zero (g ∷ feet) (p ∷ old) [] f l h e not = absurd (let none : ⊥ = cc in none)
  forgets_not zero (g ∷ feet) (p ∷ old) (k ∷ new) f l h e not =
      let is : f ≡ g = cc in
      let same : k ≡ p = cc in
      let rest : new ≡ old = cc in
      (record { gone = λ m. absurd (not (subst (λ (v : Footprint). Meets v touch) (sym is) m)); stays = λ _. same }, rest)
  forgets_not (suc n) [] old new f l h e not = cc
  forgets_not (suc n) (g ∷ feet) [] new f l h e not = h
  forgets_not (suc n) (g ∷ feet) (p ∷ old) [] f l h e not = h
  forgets_not (suc n) (g ∷ feet) (p ∷ old) (k ∷ new) f l h e not = (h.0, forgets_not n feet old new f (omega arith) h.1 e not)

-- what is taken away is counted no more
pub rows_less : (kept : List Kept) (i : ℕ) (k : Kept) → slice_get kept i ≡ Some k → rows_kept (slice_set kept i None) + rows_in k ≡ rows_kept kept
rows_less [] i k e = cc
rows_less (j ∷ kept) zero k e = let is : rows_in j ≡ rows_in k = cc in omega arith
rows_less (j ∷ kept) (suc i) k e = let r = rows_less kept i k e in omega arith

-- and what is kept where nothing was is counted
pub rows_more : (kept : List Kept) (i : ℕ) (rows : List Row) → slice_get kept i ≡ Some None → rows_kept (slice_set kept i (Some rows)) ≡ rows_kept kept + length rows
rows_more [] i rows e = cc
rows_more (j ∷ kept) zero rows e = let none : j ≡ None = cc in let is : rows_in j ≡ 0 = ap rows_in none in omega arith
rows_more (j ∷ kept) (suc i) rows e = let r = rows_more kept i rows e in omega arith

pub rows_none : (kept : List Kept) → rows_kept (kept ++ None ∷ []) ≡ rows_kept kept
rows_none [] = refl
rows_none (k ∷ kept) = let r = rows_none kept in omega arith

pub length_set : (kept : List Kept) (i : ℕ) (x : Kept) → length (slice_set kept i x) ≡ length kept
length_set [] i x = refl
length_set (k ∷ kept) zero x = refl
length_set (k ∷ kept) (suc i) x = ap suc (length_set kept i x)

-- the same of relations
pub relations_less : (kept : List Kept) (i : ℕ) (k : Kept) → slice_get kept i ≡ Some k → relations_kept (slice_set kept i None) + relations_in k ≡ relations_kept kept
relations_less [] i k e = cc
relations_less (j ∷ kept) zero k e = let is : relations_in j ≡ relations_in k = cc in omega arith
relations_less (j ∷ kept) (suc i) k e = let r = relations_less kept i k e in omega arith

pub relations_more : (kept : List Kept) (i : ℕ) (rows : List Row) → slice_get kept i ≡ Some None → relations_kept (slice_set kept i (Some rows)) ≡ relations_kept kept + 1
relations_more [] i rows e = cc
relations_more (j ∷ kept) zero rows e = let none : j ≡ None = cc in let is : relations_in j ≡ 0 = ap relations_in none in omega arith
relations_more (j ∷ kept) (suc i) rows e = let r = relations_more kept i rows e in omega arith

relations_none : (kept : List Kept) → relations_kept (kept ++ None ∷ []) ≡ relations_kept kept
relations_none [] = refl
relations_none (k ∷ kept) = let r = relations_none kept in omega arith

at_most_one : (k : Kept) → relations_in k ≤ 1
at_most_one None = omega arith
at_most_one (Some rows) = omega arith

-- at most one relation is kept at a place
few_relations : (kept : List Kept) → relations_kept kept ≤ length kept
few_relations [] = omega arith
few_relations (k ∷ kept) = let r = few_relations kept in let one = at_most_one k in omega arith

-- so there are fewer where a place is free
pub fewer_relations : (kept : List Kept) (i : ℕ) → slice_get kept i ≡ Some None → relations_kept kept < length kept
fewer_relations [] i e = cc
fewer_relations (j ∷ kept) zero e = let none : j ≡ None = cc in let is : relations_in j ≡ 0 = ap relations_in none in let r = few_relations kept in omega arith
fewer_relations (j ∷ kept) (suc i) e = let r = fewer_relations kept i e in let one = at_most_one j in omega arith

pub relations_there : (kept : List Kept) (place : ℕ) (was : Kept) → slice_get kept place ≡ Some was → relations_in was ≤ relations_kept kept
relations_there kept place was e = let m = relations_less kept place was e in omega arith

none_here : (k : Kept) → relations_in k ≡ 0 → k ≡ None
none_here None e = refl
none_here (Some rows) e = absurd (let none : ⊥ = omega arith in none)

-- where no relation is kept, there is nothing to forget
pub forgets_nothing : (touch : Touch) (feet : List Footprint) (kept : List Kept) → length kept ≡ length feet → relations_kept kept ≡ 0 → Forgets touch feet kept kept
forgets_nothing touch [] [] l e = tt
forgets_nothing touch [] (k ∷ kept) l e = absurd (let none : ⊥ = omega arith in none)
forgets_nothing touch (f ∷ feet) [] l e = absurd (let none : ⊥ = omega arith in none)
forgets_nothing touch (f ∷ feet) (k ∷ kept) l e =
    (record { gone = λ _. none_here k (omega arith); stays = λ _. refl }, forgets_nothing touch feet kept (omega arith) (omega arith))

-- a place more, at which nothing is kept
pub shelf_more : (feet : List Footprint) (kept : List Kept) (rows count : ℕ) (f : Footprint) → IsShelf feet kept rows count → IsShelf (feet ++ f ∷ []) (kept ++ None ∷ []) rows count
shelf_more feet kept rows count f s = record {
  each = let l = length-append feet (f ∷ []) in let k = length-append kept (None ∷ []) in let e = s.each in omega arith;
  counted = s.counted ∙ sym (rows_none kept);
  many = s.many ∙ sym (relations_none kept);
  few = s.few;
}

-- a relation more
pub shelf_keeps : (feet : List Footprint) (kept : List Kept) (rows count place : ℕ) (relation : List Row) → IsShelf feet kept rows count → slice_get kept place ≡ Some None → rows + length relation ≤ MAX_KEPT_ROWS
    → IsShelf feet (slice_set kept place (Some relation)) (rows + length relation) (count + 1)
shelf_keeps feet kept rows count place relation s e l = record {
  each = length_set kept place (Some relation) ∙ s.each;
  counted = let c = s.counted in let m = rows_more kept place relation e in omega arith;
  many = let c = s.many in let m = relations_more kept place relation e in omega arith;
  few = l;
}

-- a relation less
pub shelf_drops : (feet : List Footprint) (kept : List Kept) (rows count place : ℕ) (was : Kept) → IsShelf feet kept rows count → slice_get kept place ≡ Some was → IsShelf feet (slice_set kept place None) (rows - rows_in was) (count - relations_in was)
shelf_drops feet kept rows count place was s e = record {
  each = length_set kept place None ∙ s.each;
  counted = let c = s.counted in let m = rows_less kept place was e in omega arith;
  many = let c = s.many in let m = relations_less kept place was e in omega arith;
  few = let f = s.few in omega arith;
}

pub counted_there : (kept : List Kept) (place : ℕ) (was : Kept) → slice_get kept place ≡ Some was → rows_in was ≤ rows_kept kept
counted_there kept place was e = let m = rows_less kept place was e in omega arith

some_at : {X : Type 0} (P : X → Type 0) (o : Option X) → IsSomeAnd o P → (x : X) × (o ≡ Some x) × P x
some_at P None h = absurd h
some_at P (Some x) h = (x, refl, h)

some_within : (kept : List Kept) (n : ℕ) → n < length kept → (k : Kept) × (slice_get kept n ≡ Some k)
some_within [] n l = absurd (let none : ⊥ = omega arith in none)
some_within (k ∷ kept) zero l = (k, refl)
some_within (k ∷ kept) (suc n) l = some_within kept n (omega arith)

-- one place more, that the touch meets
pub forgets_here : (touch : Touch) (n : ℕ) (r : Bool) (old now new : Shelved) → IsForgetting n touch old now → n < length now.feet → IsSomeAnd (slice_get now.feet n) (λ foot. LosesAt touch foot (slice_get now.kept n) r) → r ≡ true
    → new.feet ≡ now.feet → new.kept ≡ slice_set now.kept n None → IsForgetting (n + 1) touch old new
forgets_here touch n r old now new h l met hit feet kept =
    let f = some_at (λ foot. LosesAt touch foot (slice_get now.kept n) r) (slice_get now.feet n) met in
    let e = h.each in
    let k = some_within now.kept n (omega arith) in
    let at = ap (λ (v : List Footprint). slice_get v n) (sym h.feet) ∙ f.1 in
    let more = forgets_next touch n old.feet old.kept now.kept f.0 k.0 None h.first at k.1 (λ was _ _. record { gone = λ _. refl; stays = λ not. absurd (not (f.2.only hit)) }) in
    let first = subst (λ (v : List Kept). ForgetsFirst (suc n) touch old.feet old.kept v) (sym kept) more in
    let same : suc n ≡ n + 1 = omega arith in
    record {
      feet = feet ∙ h.feet;
      each = ap length kept ∙ length_set now.kept n None ∙ h.each ∙ ap length (sym feet);
      before = h.before;
      first = subst (λ (v : ℕ). ForgetsFirst v touch old.feet old.kept new.kept) same first;
    }

-- nothing is kept at the next place
forgets_free : (touch : Touch) (n : ℕ) (feet : List Footprint) (old new : List Kept) → length new ≡ length feet → ForgetsFirst n touch feet old new → slice_get new n ≡ Some None → ForgetsFirst (suc n) touch feet old new
forgets_free touch zero [] old [] l h e = cc
forgets_free touch zero [] old (k ∷ new) l h e = absurd (let none : ⊥ = omega arith in none)
forgets_free touch zero (g ∷ feet) [] [] l h e = cc
forgets_free touch zero (g ∷ feet) [] (k ∷ new) l h e = absurd (let none : ⊥ = cc in none)
forgets_free touch zero (g ∷ feet) (p ∷ old) [] l h e = absurd (let none : ⊥ = cc in none)
forgets_free touch zero (g ∷ feet) (p ∷ old) (k ∷ new) l h e =
    let same : k ≡ p = cc in
    let none : k ≡ None = cc in
    let rest : new ≡ old = cc in
    (record { gone = λ _. none; stays = λ _. same }, rest)
forgets_free touch (suc n) [] old [] l h e = cc
forgets_free touch (suc n) [] old (k ∷ new) l h e = absurd (let none : ⊥ = omega arith in none)
forgets_free touch (suc n) (g ∷ feet) [] new l h e = h
forgets_free touch (suc n) (g ∷ feet) (p ∷ old) [] l h e = h
forgets_free touch (suc n) (g ∷ feet) (p ∷ old) (k ∷ new) l h e = (h.0, forgets_free touch n feet old new (omega arith) h.1 e)

-- one place more, that it doesn't meet, or at which nothing is kept
pub forgets_elsewhere : (touch : Touch) (n : ℕ) (r : Bool) (old now : Shelved) → IsForgetting n touch old now → IsSomeAnd (slice_get now.feet n) (λ foot. LosesAt touch foot (slice_get now.kept n) r) → r ≡ false → IsForgetting (n + 1) touch old now
forgets_elsewhere touch n r old now h met miss =
    let f = some_at (λ foot. LosesAt touch foot (slice_get now.kept n) r) (slice_get now.feet n) met in
    let at = ap (λ (v : List Footprint). slice_get v n) (sym h.feet) ∙ f.1 in
    let long = h.each ∙ ap length h.feet in
    let same : suc n ≡ n + 1 = omega arith in
    record {
      feet = h.feet;
      each = h.each;
      before = h.before;
      first = subst (λ (v : ℕ). ForgetsFirst v touch old.feet old.kept now.kept) same (elim (f.2.unless miss) [
        | inl not ↦ forgets_not touch n old.feet old.kept now.kept f.0 long h.first at not
        | inr free ↦ forgets_free touch n old.feet old.kept now.kept long h.first free
      ]);
    }

pub length_map : {X Y : Type 0} (f : X → Y) (xs : List X) → length (map f xs) ≡ length xs
length_map f [] = refl
length_map f (x ∷ xs) = ap suc (length_map f xs)
