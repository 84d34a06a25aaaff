-- What holds of the elements before and after a place of a list.
use Rattle.std.proofs.Common.{◌≡◌, ◌⊎◌, inl, inr, ⊎_elim, ℕ, zero, suc, ◌+◌, ◌<◌, ◌≤◌, List, [], ◌∷◌, length, slice_index_or, take, drop, Some, None, refl, sym, ◌∙◌, subst, arith}
use Rattle.std.specs.Prelude.{slice_get}
use Rattle.std.specs.List.{AllWithin}
use Rattle.std.proofs.lemmas.List.{length-take, length-drop, get_or-take, get_or-drop, take_more, take-append-drop}
use Rattle.itpg_base.specs.Lists.{Among, Ordered}
use Rattle.itpg_base.proofs.Lists.{all_among, among_append, append_first, append_second, among_at, ordered_first}

pub among_before : {X : Type 0} (P : X → Type 0) (xs : List X) (n : ℕ) → n ≤ length xs → AllWithin P xs 0 n → (x : X) → Among (take n xs) x → P x
among_before P xs n le all = all_among P (take n xs) (λ k d lt. let below : k < n = omega (arith, length-take n xs) in subst P (sym (get_or-take n xs k d below)) (all k d (omega arith) below))

pub among_behind : {X : Type 0} (P : X → Type 0) (xs : List X) (n : ℕ) → n ≤ length xs → AllWithin P xs n (length xs) → (x : X) → Among (drop n xs) x → P x
among_behind P xs n le all = all_among P (drop n xs) (λ k d lt. subst P (sym (get_or-drop n xs k d)) (all (n + k) d (omega arith) (omega (arith, length-drop n xs))))

-- an element stands before the place or behind it
pub among_either : {X : Type 0} (xs : List X) (n : ℕ) (x : X) → Among xs x → Among (take n xs) x ⊎ Among (drop n xs) x
among_either {X} xs n x i = among_append (take n xs) (drop n xs) x (subst (λ (v : List X). Among v x) (sym (take-append-drop n xs)) i)

pub front_among : {X : Type 0} (xs : List X) (n : ℕ) (x : X) → Among (take n xs) x → Among xs x
front_among {X} xs n x i = subst (λ (v : List X). Among v x) (take-append-drop n xs) (append_first (take n xs) (drop n xs) x i)

pub rest_among : {X : Type 0} (xs : List X) (n : ℕ) (x : X) → Among (drop n xs) x → Among xs x
rest_among {X} xs n x i = subst (λ (v : List X). Among v x) (take-append-drop n xs) (append_second (take n xs) (drop n xs) x i)

pub rest_ordered : {X : Type 0} (Before : X → X → Type 0) (xs : List X) (n : ℕ) → Ordered Before xs → Ordered Before (drop n xs)
rest_ordered Before xs zero o = o
rest_ordered Before [] (suc n) o = o
rest_ordered Before (x ∷ xs) (suc n) o = rest_ordered Before xs n o.1

pub front_ordered : {X : Type 0} (Before : X → X → Type 0) (xs : List X) (n : ℕ) → Ordered Before xs → Ordered Before (take n xs)
front_ordered {X} Before xs n o = ordered_first Before (take n xs) (drop n xs) (subst (λ (v : List X). Ordered Before v) (sym (take-append-drop n xs)) o)

pub none_dropped : {X : Type 0} (xs : List X) → drop 0 xs ≡ xs
none_dropped [] = refl
none_dropped (x ∷ xs) = refl

-- the first element, and that there is none
pub no_first : {X : Type 0} (xs : List X) → None ≡ slice_get xs 0 → xs ≡ []
no_first [] e = refl
no_first (x ∷ xs) e = let none : ⊥ = cc in absurd none

pub first_among : {X : Type 0} (xs : List X) (x : X) → slice_get xs 0 ≡ Some x → Among xs x
first_among [] x e = let none : ⊥ = cc in absurd none
first_among (y ∷ ys) x e = inl (cc)

pub first_before : {X : Type 0} (Before : X → X → Type 0) (xs : List X) (x : X) → Ordered Before xs → slice_get xs 0 ≡ Some x → (y : X) → Among xs y → (x ≡ y) ⊎ Before x y
first_before Before [] x o e y i = absurd i
first_before {X} Before (z ∷ zs) x o e y i =
    let same : z ≡ x = cc in
    ⊎_elim (λ (g : z ≡ y). inl (sym same ∙ g)) (λ j. inr (subst (λ (v : X). Before v y) same (o.0 y j))) i

-- one more element is read
pub among_more : {X : Type 0} (xs : List X) (i : ℕ) (d x : X) → i < length xs → d ≡ slice_index_or xs i d → Among (take (i + 1) xs) x → Among (take i xs) x ⊎ (d ≡ x)
among_more {X} xs i d x lt e h = ⊎_elim (λ j. inl j) (λ j. ⊎_elim (λ (g : slice_index_or xs i d ≡ x). inr (e ∙ g)) (λ k. absurd k) j)
    (among_append (take i xs) (slice_index_or xs i d ∷ []) x (subst (λ (v : List X). Among v x) (take_more xs i d lt) h))

pub more_among : {X : Type 0} (xs : List X) (i : ℕ) (d x : X) → i < length xs → d ≡ slice_index_or xs i d → Among (take i xs) x ⊎ (d ≡ x) → Among (take (i + 1) xs) x
more_among {X} xs i d x lt e h = subst (λ (v : List X). Among v x) (sym (take_more xs i d lt))
    (⊎_elim (λ j. append_first (take i xs) (slice_index_or xs i d ∷ []) x j) (λ (g : d ≡ x). append_second (take i xs) (slice_index_or xs i d ∷ []) x (inl (sym e ∙ g))) h)

pub read_among : {X : Type 0} (xs : List X) (i : ℕ) (d : X) → i < length xs → d ≡ slice_index_or xs i d → Among xs d
read_among {X} xs i d lt e = subst (λ (v : X). Among xs v) (sym e) (among_at xs i d lt)
