-- Objects by number and by name.
use Rattle.std.proofs.Common.{◌≡◌, ◌≢◌, ℕ, zero, suc, ◌+◌, List, [], ◌∷◌, ◌++◌, ◌⊎◌, inl, inr, length, Option, Some, None, Bool, true, false, ◌&&◌, refl, sym, ap, ◌∙◌, subst, arith, true≢false, cond}
use Rattle.std.specs.Prelude.{slice_get, IsSomeAnd, nat_eq}
use Rattle.std.specs.List.{position_from}
use Rattle.std.specs.Cmp.{first_so, second_so}
use Rattle.std.specs.Cmp.Lexicographic.{pointwise}
use Rattle.std.proofs.lemmas.Bool.{eqb-true, eq-eqb}
use Rattle.itpg_base.specs.Words.{Word}
use Rattle.itpg_base.specs.Graphs.{Object, Graph, Named, Good, has_name, numbered, changed_at}

-- what is at a place
pub there : {X : Type 0} (xs : List X) (o : ℕ) (P : X → Type 0) → IsSomeAnd (slice_get xs o) P → (x : X) × (slice_get xs o ≡ Some x) × P x
there [] o P h = absurd h
there (x ∷ xs) zero P h = (x, refl, h)
there (x ∷ xs) (suc o) P h = there xs o P h

pub here : {X : Type 0} (xs : List X) (o : ℕ) (P : X → Type 0) (x : X) → slice_get xs o ≡ Some x → P x → IsSomeAnd (slice_get xs o) P
here xs o P x e h = subst (λ w. IsSomeAnd w P) (sym e) h

pub same_some : {X : Type 0} (a b : X) (o : Option X) → o ≡ Some a → o ≡ Some b → a ≡ b
same_some a b o e f = let h : Some a ≡ Some b = sym e ∙ f in cc

-- behind the others
pub get_kept : {X : Type 0} (xs ys : List X) (k : ℕ) (y : X) → slice_get xs k ≡ Some y → slice_get (xs ++ ys) k ≡ Some y
get_kept [] ys k y e = let none : ⊥ = cc in absurd none
get_kept (x ∷ xs) ys zero y e = e
get_kept (x ∷ xs) ys (suc k) y e = get_kept xs ys k y e

pub get_last : {X : Type 0} (xs : List X) (x : X) → slice_get (xs ++ x ∷ []) (length xs) ≡ Some x
get_last [] x = refl
get_last (y ∷ ys) x = get_last ys x

pub get_push : {X : Type 0} (xs : List X) (x : X) (k : ℕ) (y : X) → slice_get (xs ++ x ∷ []) k ≡ Some y → (slice_get xs k ≡ Some y) ⊎ ((k ≡ length xs) × (y ≡ x))
get_push [] x zero y e = inr (refl, sym (let h : Some x ≡ Some y = e in cc))
get_push [] x (suc k) y e = let none : ⊥ = cc in absurd none
get_push (z ∷ zs) x zero y e = inl e
get_push (z ∷ zs) x (suc k) y e = elim (get_push zs x k y e) [ inl h ↦ inl h | inr h ↦ inr (ap (λ n. suc n) h.0, h.1) ]

-- where one element is changed
pub get_changed : {X : Type 0} (xs : List X) (i : ℕ) (f : X → X) (x : X) → slice_get xs i ≡ Some x → slice_get (changed_at xs i f) i ≡ Some (f x)
get_changed [] i f x e = let none : ⊥ = cc in absurd none
get_changed (y ∷ ys) zero f x e = ap (λ v. Some (f v)) (let h : Some y ≡ Some x = e in cc)
get_changed (y ∷ ys) (suc i) f x e = get_changed ys i f x e

pub get_other : {X : Type 0} (xs : List X) (i k : ℕ) (f : X → X) → k ≢ i → slice_get (changed_at xs i f) k ≡ slice_get xs k
get_other [] i k f n = refl
get_other (y ∷ ys) zero zero f n = absurd (n refl)
get_other (y ∷ ys) zero (suc k) f n = refl
get_other (y ∷ ys) (suc i) zero f n = refl
get_other (y ∷ ys) (suc i) (suc k) f n = get_other ys i k f (λ e. n (ap (λ m. suc m) e))

pub length-changed_at : {X : Type 0} (xs : List X) (i : ℕ) (f : X → X) → length (changed_at xs i f) ≡ length xs
length-changed_at [] i f = refl
length-changed_at (y ∷ ys) zero f = refl
length-changed_at (y ∷ ys) (suc i) f = ap (λ n. suc n) (length-changed_at ys i f)

-- names as tests
pub word_same : (a b : Word) → pointwise nat_eq a b ≡ true → a ≡ b
word_same [] [] e = refl
word_same [] (y ∷ ys) e = absurd (true≢false (sym e))
word_same (x ∷ xs) [] e = absurd (true≢false (sym e))
word_same (x ∷ xs) (y ∷ ys) e = let a = eqb-true x y (first_so (nat_eq x y) _ e) in let b = word_same xs ys (second_so (nat_eq x y) _ e) in cc

pub word_refl : (a : Word) → pointwise nat_eq a a ≡ true
word_refl [] = refl
word_refl (x ∷ xs) = ap (λ t. t && pointwise nat_eq xs xs) (eq-eqb x x refl) ∙ word_refl xs

-- what stands at the first place at which a test passes
position_is : (p : Object → Bool) (i : ℕ) (xs : List Object) (k : ℕ) → position_from p i xs ≡ Some k → (j : ℕ) × (k ≡ i + j) × IsSomeAnd (slice_get xs j) (λ x. p x ≡ true)
position_is p i [] k e = let none : ⊥ = cc in absurd none
position_is p i (x ∷ xs) k e = by_test (p x) refl e (position_is p (i + 1) xs k)
  where
    by_test : (t : Bool) → p x ≡ t → cond t (Some i) (position_from p (i + 1) xs) ≡ Some k
        → (position_from p (i + 1) xs ≡ Some k → (j : ℕ) × (k ≡ i + 1 + j) × IsSomeAnd (slice_get xs j) (λ x. p x ≡ true))
        → (j : ℕ) × (k ≡ i + j) × IsSomeAnd (slice_get (x ∷ xs) j) (λ x. p x ≡ true)
    by_test true h g more = (0, (let same : i ≡ k = cc in omega arith), h)
    by_test false h g more = let r = more g in (suc r.0, (let e = r.1 in omega arith), r.2)

-- where it passes nowhere
position_none : (p : Object → Bool) (i : ℕ) (xs : List Object) → position_from p i xs ≡ None → (j : ℕ) → IsSomeAnd (slice_get xs j) (λ x. p x ≡ true) → ⊥
position_none p i [] e j h = h
position_none p i (x ∷ xs) e j h = by_test (p x) refl e (position_none p (i + 1) xs) j h
  where
    by_test : (t : Bool) → p x ≡ t → cond t (Some i) (position_from p (i + 1) xs) ≡ None
        → (position_from p (i + 1) xs ≡ None → (j : ℕ) → IsSomeAnd (slice_get xs j) (λ x. p x ≡ true) → ⊥)
        → (j : ℕ) → IsSomeAnd (slice_get (x ∷ xs) j) (λ x. p x ≡ true) → ⊥
    by_test true f g more j h = let none : ⊥ = cc in none
    by_test false f g more zero h = true≢false (sym h ∙ f)
    by_test false f g more (suc j) h = more g j h

named_test : (g : Graph) (name : Word) (o : ℕ) → Named g o name → IsSomeAnd (slice_get g.objects o) (λ x. has_name name x ≡ true)
named_test g name o h =
    let t = there g.objects o _ h in
    here g.objects o _ t.0 t.1 (ap (λ s. s && pointwise nat_eq t.0.name name) t.2.0 ∙ ap (λ w. pointwise nat_eq w name) t.2.1 ∙ word_refl name)

test_named : (g : Graph) (name : Word) (o : ℕ) → IsSomeAnd (slice_get g.objects o) (λ x. has_name name x ≡ true) → Named g o name
test_named g name o h =
    let t = there g.objects o _ h in
    here g.objects o _ t.0 t.1 (first_so t.0.standing _ t.2, word_same t.0.name name (second_so t.0.standing _ t.2))

-- the object that a name's number gives stands and has the name
pub numbered_named : (g : Graph) (name : Word) (o : ℕ) → numbered g name ≡ Some o → Named g o name
numbered_named g name o e =
    let r = position_is (has_name name) 0 g.objects o e in
    let same : r.0 ≡ o = (let f = r.1 in omega arith) in
    subst (λ k. Named g k name) same (test_named g name r.0 r.2)

-- a name without a number is no standing object's
pub unnumbered : (g : Graph) (name : Word) → numbered g name ≡ None → (o : ℕ) → Named g o name → ⊥
unnumbered g name e o h = position_none (has_name name) 0 g.objects e o (named_test g name o h)

-- in a good graph a name has one number
pub named_numbered : (g : Graph) → Good g → (name : Word) (o : ℕ) → Named g o name → numbered g name ≡ Some o
named_numbered g good name o h = by_number (numbered g name) refl
  where
    by_number : (n : Option ℕ) → numbered g name ≡ n → n ≡ Some o
    by_number None e = absurd (unnumbered g name e o h)
    by_number (Some k) e = ap Some (good.names_differ k o name (numbered_named g name k e) h)

pub not_numbered : (g : Graph) (name : Word) → ((o : ℕ) → Named g o name → ⊥) → numbered g name ≡ None
not_numbered g name none = by_number (numbered g name) refl
  where
    by_number : (n : Option ℕ) → numbered g name ≡ n → n ≡ None
    by_number None e = refl
    by_number (Some k) e = absurd (none k (numbered_named g name k e))
