-- Lists in order, and parts of lists.
use Rattle.std.proofs.Common.{◌≡◌, ◌⊎◌, inl, inr, ⊎_elim, ℕ, zero, suc, ◌+◌, ◌-◌, ◌<◌, List, [], ◌∷◌, ◌++◌, length, get_or, take, drop, refl, sym, ◌∙◌, subst, arith}
use Rattle.std.specs.Prelude.{All}
use Rattle.std.proofs.lemmas.Grind.{common_steps}
use Rattle.std.specs.List.Sorted.{IsPermutation}
use Rattle.std.proofs.lemmas.List.Sorted.{All-permutation, IsPermutation-sym}
use Rattle.itpg_base.specs.Lists.{Among, Ordered}

pub among_append : {X : Type 0} (xs ys : List X) (x : X) → Among (xs ++ ys) x → Among xs x ⊎ Among ys x
among_append [] ys x h = inr h
among_append (z ∷ zs) ys x (inl e) = inl (inl e)
among_append (z ∷ zs) ys x (inr h) = ⊎_elim (λ i. inl (inr i)) (λ j. inr j) (among_append zs ys x h)

pub append_first : {X : Type 0} (xs ys : List X) (x : X) → Among xs x → Among (xs ++ ys) x
append_first [] ys x h = absurd h
append_first (z ∷ zs) ys x (inl e) = inl e
append_first (z ∷ zs) ys x (inr h) = inr (append_first zs ys x h)

pub append_second : {X : Type 0} (xs ys : List X) (x : X) → Among ys x → Among (xs ++ ys) x
append_second [] ys x h = h
append_second (z ∷ zs) ys x h = inr (append_second zs ys x h)

pub append_ordered : {X : Type 0} (Before : X → X → Type 0) (xs ys : List X) → Ordered Before xs → Ordered Before ys → ((x y : X) → Among xs x → Among ys y → Before x y) → Ordered Before (xs ++ ys)
append_ordered Before [] ys ox oy h = oy
append_ordered Before (x ∷ xs) ys ox oy h = (
  λ y i. ⊎_elim (λ j. ox.0 y j) (λ k. h x y (inl refl) k) (among_append xs ys y i),
  append_ordered Before xs ys ox.1 oy (λ a b i j. h a b (inr i) j),
)

-- lists in a strict order that have the same elements are one list
pub ordered_unique : {X : Type 0} (Before : X → X → Type 0) → ((x y : X) → Before x y → Before y x → ⊥) → (xs ys : List X) → Ordered Before xs → Ordered Before ys
    → ((x : X) → Among xs x → Among ys x) → ((x : X) → Among ys x → Among xs x) → xs ≡ ys
ordered_unique Before apart [] [] ox oy f g = refl
ordered_unique Before apart [] (y ∷ ys) ox oy f g = absurd (g y (inl refl))
ordered_unique Before apart (x ∷ xs) [] ox oy f g = absurd (f x (inl refl))
ordered_unique {X} Before apart (x ∷ xs) (y ∷ ys) ox oy f g =
    let heads : x ≡ y = ⊎_elim (λ (e : y ≡ x). sym e) (λ i. ⊎_elim (λ (e : x ≡ y). e) (λ j. absurd (apart x y (ox.0 y j) (oy.0 x i))) (g y (inl refl))) (f x (inl refl)) in
    let tails : xs ≡ ys = ordered_unique Before apart xs ys ox.1 oy.1
    (λ b h. ⊎_elim (λ (e : y ≡ b). absurd (let k : Before x x = subst (λ (v : X). Before x v) (sym (heads ∙ e)) (ox.0 b h) in apart x x k k)) (λ i. i) (f b (inr h)))
    (λ b h. ⊎_elim (λ (e : x ≡ b). absurd (let k : Before y y = subst (λ (v : X). Before y v) (sym (sym heads ∙ e)) (oy.0 b h) in apart y y k k)) (λ i. i) (g b (inr h))) in
    cc

pub ordered_first : {X : Type 0} (Before : X → X → Type 0) (xs ys : List X) → Ordered Before (xs ++ ys) → Ordered Before xs
ordered_first Before [] ys o = tt
ordered_first Before (x ∷ xs) ys o = (λ y i. o.0 y (append_first xs ys y i), ordered_first Before xs ys o.1)

pub ordered_second : {X : Type 0} (Before : X → X → Type 0) (xs ys : List X) → Ordered Before (xs ++ ys) → Ordered Before ys
ordered_second Before [] ys o = o
ordered_second Before (x ∷ xs) ys o = ordered_second Before xs ys o.1

pub ordered_across : {X : Type 0} (Before : X → X → Type 0) (xs ys : List X) → Ordered Before (xs ++ ys) → (x y : X) → Among xs x → Among ys y → Before x y
ordered_across Before [] ys o x y i j = absurd i
ordered_across {X} Before (z ∷ zs) ys o x y (inl e) j = subst (λ (v : X). Before v y) e (o.0 y (append_second zs ys y j))
ordered_across Before (z ∷ zs) ys o x y (inr i) j = ordered_across Before zs ys o.1 x y i j

pub ordered_as : {X : Type 0} (Before After : X → X → Type 0) → ((x y : X) → Before x y → After x y) → (xs : List X) → Ordered Before xs → Ordered After xs
ordered_as Before After f [] o = tt
ordered_as Before After f (x ∷ xs) o = (λ y i. f x y (o.0 y i), ordered_as Before After f xs o.1)

-- of two elements of a list in order, they are one or one is before the other
pub ordered_either : {X : Type 0} (Before : X → X → Type 0) (xs : List X) → Ordered Before xs → (x y : X) → Among xs x → Among xs y → (x ≡ y) ⊎ (Before x y ⊎ Before y x)
ordered_either Before [] o x y i j = absurd i
ordered_either Before (z ∷ zs) o x y (inl e) (inl g) = inl (sym e ∙ g)
ordered_either {X} Before (z ∷ zs) o x y (inl e) (inr j) = inr (inl (subst (λ (v : X). Before v y) e (o.0 y j)))
ordered_either {X} Before (z ∷ zs) o x y (inr i) (inl g) = inr (inr (subst (λ (v : X). Before v x) g (o.0 x i)))
ordered_either Before (z ∷ zs) o x y (inr i) (inr j) = ordered_either Before zs o.1 x y i j

-- elements by their place
pub among_at : {X : Type 0} (xs : List X) (i : ℕ) (d : X) → i < length xs → Among xs (get_or xs i d)
among_at [] i d h = absurd (omega arith)
among_at (x ∷ xs) zero d h = inl refl
among_at (x ∷ xs) (suc i) d h = inr (among_at xs i d (omega arith))

pub place_of : {X : Type 0} (xs : List X) (x : X) → Among xs x → (k : ℕ) × (k < length xs) × ((d : X) → get_or xs k d ≡ x)
place_of [] x h = absurd h
place_of (y ∷ ys) x (inl e) = (zero, (omega arith), λ d. e)
place_of (y ∷ ys) x (inr i) = let w = place_of ys x i in (suc w.0, (let l = w.1 in omega arith), w.2)

-- what holds of each element by its place
pub all_among : {X : Type 0} (P : X → Type 0) (xs : List X) → All P xs → (x : X) → Among xs x → P x
all_among P xs all x h = let w = place_of xs x h in subst P (w.2 x) (all w.0 x w.1)

-- a list in another order has the same elements
pub permutation_among : {X : Type 0} (xs ys : List X) → IsPermutation xs ys → (x : X) → Among ys x → Among xs x
permutation_among xs ys p x h = all_among (Among xs) ys (All-permutation (Among xs) xs ys p (λ k d l. among_at xs k d l)) x h

pub among_permutation : {X : Type 0} (xs ys : List X) → IsPermutation xs ys → (x : X) → Among xs x → Among ys x
among_permutation xs ys p x h = permutation_among ys xs (IsPermutation-sym xs ys p) x h

-- neighbours in order make a list in order
pub ordered_from_neighbours : {X : Type 0} (Before : X → X → Type 0) → ((x y z : X) → Before x y → Before y z → Before x z) → (xs : List X)
    → ((k : ℕ) (d : X) → k + 1 < length xs → Before (get_or xs k d) (get_or xs (k + 1) d)) → Ordered Before xs
ordered_from_neighbours Before trans [] h = tt
ordered_from_neighbours Before trans (x ∷ []) h = (λ y i. absurd i, tt)
ordered_from_neighbours {X} Before trans (x ∷ y ∷ ys) h =
    let rest = ordered_from_neighbours Before trans (y ∷ ys) (λ k d l. let e : suc k + 1 ≡ suc (k + 1) = omega arith in subst (λ (n : ℕ). Before (get_or (y ∷ ys) k d) (get_or (x ∷ y ∷ ys) n d)) e (h (suc k) d (omega arith))) in
    let next : Before x y = h 0 x (omega arith) in (
      λ z i. ⊎_elim (λ (e : y ≡ z). subst (λ (v : X). Before x v) e next) (λ j. trans x y z next (rest.0 z j)) i,
      rest,
    )

pub among_take : {X : Type 0} (xs : List X) (i : ℕ) (x : X) → Among (take i xs) x → Among xs x
among_take [] zero x h = absurd h
among_take [] (suc i) x h = absurd h
among_take (y ∷ ys) zero x h = absurd h
among_take (y ∷ ys) (suc i) x (inl e) = inl e
among_take (y ∷ ys) (suc i) x (inr h) = inr (among_take ys i x h)

-- an element of a list in order comes after those before its place
pub ordered_at : {X : Type 0} (Before : X → X → Type 0) (xs : List X) (i : ℕ) (d : X) → Ordered Before xs → i < length xs → (x : X) → Among (take i xs) x → Before x (get_or xs i d)
ordered_at Before [] i d o lt x h = absurd (omega arith)
ordered_at Before (y ∷ ys) zero d o lt x h = absurd h
ordered_at {X} Before (y ∷ ys) (suc i) d o lt x (inl e) = subst (λ (v : X). Before v (get_or ys i d)) e (o.0 (get_or ys i d) (among_at ys i d (omega arith)))
ordered_at Before (y ∷ ys) (suc i) d o lt x (inr h) = ordered_at Before ys i d o.1 (omega arith) x h

pub ordered_by_place : {X : Type 0} (Before : X → X → Type 0) (xs : List X) → Ordered Before xs → (i j : ℕ) (d : X) → i < j → j < length xs → Before (get_or xs i d) (get_or xs j d)
ordered_by_place Before [] o i j d lt l = absurd (omega arith)
ordered_by_place Before (x ∷ xs) o zero zero d lt l = absurd (omega arith)
ordered_by_place Before (x ∷ xs) o zero (suc j) d lt l = o.0 (get_or xs j d) (among_at xs j d (omega arith))
ordered_by_place Before (x ∷ xs) o (suc i) zero d lt l = absurd (omega arith)
ordered_by_place Before (x ∷ xs) o (suc i) (suc j) d lt l = ordered_by_place Before xs o.1 i j d (omega arith) (omega arith)

-- an element of what is left from a place on is the one there, or comes after it
pub ordered_from : {X : Type 0} (Before : X → X → Type 0) (xs : List X) (i : ℕ) (d : X) → Ordered Before xs → i < length xs → (x : X) → Among (drop i xs) x → (get_or xs i d ≡ x) ⊎ Before (get_or xs i d) x
ordered_from Before [] i d o lt x h = absurd (omega arith)
ordered_from Before (y ∷ ys) zero d o lt x (inl e) = inl e
ordered_from Before (y ∷ ys) zero d o lt x (inr k) = inr (o.0 x k)
ordered_from Before (y ∷ ys) (suc i) d o lt x h = ordered_from Before ys i d o.1 (omega arith) x h

-- what stands behind a place, to the end
pub take_rest : {X : Type 0} (xs : List X) (k : ℕ) → take (length xs - k) (drop k xs) ≡ drop k xs
take_rest xs k = grind (arith, common_steps)
