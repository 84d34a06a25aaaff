-- Lists of objects: one in the middle, things in order, and names that none of them has.
use Rattle.std.proofs.Common.{◌≡◌, ℕ, zero, suc, ◌+◌, ◌<◌, ◌≤◌, List, [], ◌∷◌, ◌++◌, length, get_or, drop, Some, refl, sym, ap, subst, ◌∙◌, arith}
use Rattle.std.specs.Prelude.{slice_get, IsSomeAnd, IsTrue}
use Rattle.std.specs.Fmt.{decimal}
use Rattle.std.proofs.lemmas.Fmt.{decimal_injective}
use Rattle.itpg_base.specs.Words.{Word}
use Rattle.itpg_base.specs.Graphs.{Object, changed_at}
use Rattle.trial_script.specs.Script.{node_name, edge_name}
use Rattle.itpg_run.specs.ScriptGraph.{things}

module _ (x : Object) (rest : List Object) where
  pub at_middle : (front : List Object) (P : Object → Type 0) → IsSomeAnd (slice_get (front ++ x ∷ rest) (length front)) P → P x
  at_middle [] P h = h
  at_middle (y ∷ ys) P h = at_middle ys P h

  pub in_middle : (front : List Object) (P : Object → Type 0) → P x → IsSomeAnd (slice_get (front ++ x ∷ rest) (length front)) P
  in_middle [] P h = h
  in_middle (y ∷ ys) P h = in_middle ys P h

  pub changed_middle : (front : List Object) (f : Object → Object) → changed_at (front ++ x ∷ rest) (length front) f ≡ front ++ f x ∷ rest
  changed_middle [] f = refl
  changed_middle (y ∷ ys) f = ap (λ (l : List Object). y ∷ l) (changed_middle ys f)

-- one thing more, or none
pub more_things : {X : Type 0} (f : ℕ → X) (i count : ℕ) → things f i (suc count) ≡ f i ∷ things f (i + 1) count
unfolding things
more_things f i count = refl

pub no_things : {X : Type 0} (f : ℕ → X) (i : ℕ) → things f i 0 ≡ []
unfolding things
no_things f i = refl

-- some things and then others
pub split_things : {X : Type 0} (f : ℕ → X) (m n i : ℕ) → things f i (m + n) ≡ things f i m ++ things f (i + m) n
split_things f zero n i =
    ap (things f i) (let e : 0 + n ≡ n = omega arith in e) ∙ ap (λ k. things f k n) (let e : i ≡ i + 0 = omega arith in e) ∙ ap (λ l. l ++ things f (i + 0) n) (sym (no_things f i))
split_things f (suc m) n i =
    ap (things f i) (let e : suc m + n ≡ suc (m + n) = omega arith in e) ∙ more_things f i (m + n) ∙ ap (λ l. f i ∷ l) (split_things f m n (i + 1))
    ∙ ap (λ k. f i ∷ (things f (i + 1) m ++ things f k n)) (let e : i + 1 + m ≡ i + suc m = omega arith in e) ∙ ap (λ l. l ++ things f (i + suc m) n) (sym (more_things f i m))

-- the thing at a place
pub thing_at : {X : Type 0} (f : ℕ → X) (count i k : ℕ) → k < count → slice_get (things f i count) k ≡ Some (f (i + k))
thing_at f zero i k low = absurd (omega (arith, low))
thing_at f (suc count) i zero low = ap (λ l. slice_get l 0) (more_things f i count) ∙ ap (λ n. Some (f n)) (let e : i ≡ i + 0 = omega arith in e)
thing_at f (suc count) i (suc k) low =
    ap (λ l. slice_get l (suc k)) (more_things f i count) ∙ thing_at f count (i + 1) k (omega (arith, low)) ∙ ap (λ n. Some (f n)) (let e : i + 1 + k ≡ i + suc k = omega arith in e)

pub count_things : {X : Type 0} (f : ℕ → X) (count i : ℕ) → length (things f i count) ≡ count
count_things f zero i = ap length (no_things f i)
count_things f (suc count) i = ap length (more_things f i count) ∙ ap suc (count_things f count (i + 1))

-- none of the objects has the name
abbrev pub AllUnlike : Word → List Object → Type 0
AllUnlike name [] = Unit {0}
AllUnlike name (x ∷ xs) = (x.name ≡ name → ⊥) × AllUnlike name xs

pub unlike_joined : (name : Word) (xs ys : List Object) → AllUnlike name xs → AllUnlike name ys → AllUnlike name (xs ++ ys)
unlike_joined name [] ys h k = k
unlike_joined name (x ∷ xs) ys h k = (h.0, unlike_joined name xs ys h.1 k)

pub unlike_things : (name : Word) (f : ℕ → Object) (count i : ℕ) → ((k : ℕ) → i ≤ k → k < i + count → (f k).name ≡ name → ⊥) → AllUnlike name (things f i count)
unlike_things name f zero i h = subst (AllUnlike name) (sym (no_things f i)) tt
unlike_things name f (suc count) i h =
    subst (AllUnlike name) (sym (more_things f i count)) (h i (omega arith) (omega arith), unlike_things name f count (i + 1) (λ k low high. h k (omega (arith, low)) (omega (arith, high))))

pub none_named : (name : Word) (xs : List Object) (o : ℕ) → AllUnlike name xs → IsSomeAnd (slice_get xs o) (λ x. IsTrue x.standing × (x.name ≡ name)) → ⊥
none_named name [] o h named = named
none_named name (x ∷ xs) zero h named = h.0 named.1
none_named name (x ∷ xs) (suc o) h named = none_named name xs o h.1 named

-- names of different numbers, and of nodes and edges
same_number : (i k : ℕ) → i < 100000 → k < 100000 → decimal i ≡ decimal k → i ≡ k
same_number i k low high e = decimal_injective i k (omega (arith, low)) (omega (arith, high)) e

pub node_names_differ : (i k : ℕ) → i < k → k < 100000 → node_name i ≡ node_name k → ⊥
unfolding node_name
node_names_differ i k less high e = let same = same_number i k (omega (arith, less, high)) high (ap (drop 1) e) in omega (arith, less, same)

pub edge_names_differ : (i k : ℕ) → i < k → k < 100000 → edge_name i ≡ edge_name k → ⊥
unfolding edge_name
edge_names_differ i k less high e = let same = same_number i k (omega (arith, less, high)) high (ap (drop 1) e) in omega (arith, less, same)

pub node_edge_names : (i k : ℕ) → node_name i ≡ edge_name k → ⊥
unfolding node_name edge_name
node_edge_names i k e = let first : 110 ≡ 101 = ap (λ l. get_or l 0 0) e in omega (arith, first)
