-- What stands in a chain, by halves.
use Rattle.std.proofs.Common.{◌≡◌, ℕ, zero, suc, ◌*◌, ◌/◌, ◌≤◌, List, [], ◌∷◌, ◌++◌, refl, sym, ap, subst, arith, All}
use Rattle.std.specs.List.{AllByRecursion}
use Rattle.std.proofs.lemmas.List.Elements.{All-from_recursion, recursion_from_All}
use Rattle.itpg_base.specs.Chains.{chain_within, chain}

half_below : (n m : ℕ) → suc (suc n) ≤ suc m → suc (suc n) / 2 ≤ m
half_below n m h = omega (arith, h)

-- more fuel than the number changes nothing
same_fuel : (f g n : ℕ) → n ≤ f → n ≤ g → chain_within f n ≡ chain_within g n
unfolding chain_within
same_fuel f g zero h k = refl
same_fuel f g (suc zero) h k = refl
same_fuel zero g (suc (suc n)) h k = absurd (omega (arith, h))
same_fuel (suc f) zero (suc (suc n)) h k = absurd (omega (arith, k))
same_fuel (suc f) (suc g) (suc (suc n)) h k =
    ap (λ (xs : List ℕ). xs ++ 2 * (suc (suc n) / 2) ∷ suc (suc n) ∷ [])
    (same_fuel f g (suc (suc n) / 2) (half_below n f h) (half_below n g k))

-- above 1 a chain is that of the half, with twice the half and the number added
pub chain_step : (n : ℕ) → 2 ≤ n → chain n ≡ chain (n / 2) ++ 2 * (n / 2) ∷ n ∷ []
unfolding chain chain_within
chain_step zero h = absurd (omega (arith, h))
chain_step (suc zero) h = absurd (omega (arith, h))
chain_step (suc (suc n)) h =
    ap (λ (xs : List ℕ). xs ++ 2 * (suc (suc n) / 2) ∷ suc (suc n) ∷ [])
    (same_fuel (suc n) (suc (suc n) / 2) (suc (suc n) / 2) (half_below n (suc n) (omega arith)) (omega arith))

pub chain_zero : chain 0 ≡ []
unfolding chain chain_within
chain_zero = refl

pub chain_one : chain 1 ≡ 1 ∷ []
unfolding chain chain_within
chain_one = refl

-- a worked chain
chain_of_13 : chain 13 ≡ 1 ∷ 2 ∷ 3 ∷ 6 ∷ 6 ∷ 12 ∷ 13 ∷ []
unfolding chain chain_within
chain_of_13 = refl

all_left : {X : Type 0} (P : X → Type 0) (xs ys : List X) → AllByRecursion P (xs ++ ys) → AllByRecursion P xs
all_left P [] ys h = tt
all_left P (x ∷ xs) ys h = (h.0, all_left P xs ys h.1)

all_right : {X : Type 0} (P : X → Type 0) (xs ys : List X) → AllByRecursion P (xs ++ ys) → AllByRecursion P ys
all_right P [] ys h = h
all_right P (x ∷ xs) ys h = all_right P xs ys h.1

all_both : {X : Type 0} (P : X → Type 0) (xs ys : List X) → AllByRecursion P xs → AllByRecursion P ys → AllByRecursion P (xs ++ ys)
all_both P [] ys h k = k
all_both P (x ∷ xs) ys h k = (h.0, all_both P xs ys h.1 k)

-- what holds along a chain holds along that of the half, at twice the half, and at the number
pub record Splits (P : ℕ → Type 0) (n : ℕ) : Type 0 where
  pub half : All P (chain (n / 2))
  pub double : P (2 * (n / 2))
  pub whole : P n

pub chain_split : (P : ℕ → Type 0) (n : ℕ) → 2 ≤ n → All P (chain n) → Splits P n
chain_split P n h all =
    let parts : AllByRecursion P (chain (n / 2) ++ 2 * (n / 2) ∷ n ∷ []) =
    subst (AllByRecursion P) (chain_step n h) (recursion_from_All P (chain n) all) in
    let rest : AllByRecursion P (2 * (n / 2) ∷ n ∷ []) = all_right P (chain (n / 2)) _ parts in
    record {
      half = All-from_recursion P (chain (n / 2)) (all_left P (chain (n / 2)) _ parts);
      double = rest.0;
      whole = rest.1.0;
    }

pub chain_join : (P : ℕ → Type 0) (n : ℕ) → 2 ≤ n → Splits P n → All P (chain n)
chain_join P n h s =
    All-from_recursion P (chain n)
    (subst (AllByRecursion P) (sym (chain_step n h))
    (all_both P (chain (n / 2)) _ (recursion_from_All P (chain (n / 2)) s.half) (s.double, (s.whole, tt))))

-- 1 is in each chain but that of 0
first_within : (P : ℕ → Type 0) (fuel n : ℕ) → n ≤ fuel → 1 ≤ n → AllByRecursion P (chain_within fuel n) → P 1
unfolding chain_within
first_within P fuel zero within some all = absurd (omega (arith, some))
first_within P fuel (suc zero) within some all = all.0
first_within P zero (suc (suc n)) within some all = absurd (omega (arith, within))
first_within P (suc fuel) (suc (suc n)) within some all =
    first_within P fuel (suc (suc n) / 2) (half_below n fuel within) (omega arith) (all_left P (chain_within fuel (suc (suc n) / 2)) _ all)

pub chain_first : (P : ℕ → Type 0) (n : ℕ) → 1 ≤ n → All P (chain n) → P 1
unfolding chain
chain_first P n some all = first_within P n n (omega arith) some (recursion_from_All P (chain n) all)

-- each number but 0 is in its chain
pub chain_last : (P : ℕ → Type 0) (n : ℕ) → 1 ≤ n → All P (chain n) → P n
chain_last P zero some all = absurd (omega (arith, some))
chain_last P (suc zero) some all = chain_first P 1 some all
chain_last P (suc (suc n)) some all = (chain_split P (suc (suc n)) (omega arith) all).whole
