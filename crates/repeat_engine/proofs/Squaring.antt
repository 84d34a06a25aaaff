-- A power from the power of the half, and what fits on the way.
use Rattle.std.proofs.Common.{◌≡◌, ◌≢◌, ℕ, ◌+◌, ◌*◌, ◌/◌, ◌%◌, ◌≤◌, sym, subst, arith, All}
use Rattle.std.proofs.lemmas.List.Elements.{All-from_recursion}
use Rattle.itpg_base.specs.Chains.{chain}
use Rattle.repeat_engine.specs.Powers.{Algebra, nth_power}
use Rattle.repeat_engine.specs.Composed.{IsLawful}
use Rattle.repeat_engine.proofs.ChainLaws.{chain_one, chain_first, chain_split, chain_join}
use Rattle.repeat_engine.proofs.PowerLaws.{power_first, power_double, power_next, same_at, first_arg, squares_alike}

module _ {M : Type 0} {Alike : M → M → Type 0} {Own Fits : M → Type 0} {algebra : Algebra M} (laws : IsLawful Alike Own Fits algebra) (x : M) (own : Own x) where
  open algebra use {one, compose, unite}

  infixl 10 ◌~◌
  ◌~◌ : {a b c : M} → Alike a b → Alike b c → Alike a c
  p ~ q = laws.joined _ _ _ p q

  back : {a b : M} → Alike a b → Alike b a
  back p = laws.turned _ _ p

  abbrev Pow : ℕ → M
  Pow n = nth_power algebra x n

  abbrev FitsAt : ℕ → Type 0
  FitsAt k = Fits (Pow k)

  pub none_is : (n : ℕ) → n ≡ 0 → Alike one (Pow n)
  unfolding nth_power
  none_is n e = same_at laws Pow 0 n (sym e)

  pub first_is : (n : ℕ) → n ≡ 1 → Alike (unite x x) (Pow n)
  first_is n e = laws.united_twice x own ~ back (power_first laws x own) ~ same_at laws Pow 1 n (sym e)

  pub first_fits : (n : ℕ) → n ≡ 1 → Fits (unite x x) → All FitsAt (chain n)
  first_fits n e fits =
      let here : FitsAt 1 = laws.fits_alike _ _ (first_is n e ~ same_at laws Pow n 1 e) fits in
      subst (λ (k : ℕ). All FitsAt (chain k)) (sym e) (All-from_recursion FitsAt (chain 1) (rw chain_one (here, tt)))

  pub first_must_fit : (n : ℕ) → n ≡ 1 → All FitsAt (chain n) → Fits (unite x x)
  first_must_fit n e all =
      laws.fits_alike _ _ (same_at laws Pow 1 n (sym e) ~ back (first_is n e)) (chain_first FitsAt n (omega (arith, e)) all)

  pub half_must_fit : (n : ℕ) → 2 ≤ n → All FitsAt (chain n) → All FitsAt (chain (n / 2))
  half_must_fit n two all = (chain_split FitsAt n two all).half

  module _ (n : ℕ) (half double : M) (is_half : Alike half (Pow (n / 2))) where
    square_is : Alike (compose half half) (Pow (2 * (n / 2)))
    square_is = squares_alike laws is_half ~ power_double laws x own (n / 2)

    pub double_must_fit : 2 ≤ n → All FitsAt (chain n) → Fits (compose half half)
    double_must_fit two all = laws.fits_alike _ _ (back square_is) (chain_split FitsAt n two all).double

    pub even_is : n % 2 ≡ 0 → Alike double (compose half half) → Alike double (Pow n)
    even_is even is_double = is_double ~ square_is ~ same_at laws Pow (2 * (n / 2)) n (omega (arith, even))

    pub even_fits : 2 ≤ n → n % 2 ≡ 0 → All FitsAt (chain (n / 2)) → Fits (compose half half) → All FitsAt (chain n)
    even_fits two even halves fits =
        let at_double : FitsAt (2 * (n / 2)) = laws.fits_alike _ _ square_is fits in
        let same : 2 * (n / 2) ≡ n = omega (arith, even) in
        chain_join FitsAt n two (record { half = halves; double = at_double; whole = subst FitsAt same at_double })

    pub odd_is : n % 2 ≢ 0 → Alike double (compose half half) → Alike (compose double x) (Pow n)
    odd_is odd is_double =
        let next : n ≡ 2 * (n / 2) + 1 = omega (arith, odd) in
        first_arg laws x (is_double ~ square_is) ~ power_next laws x own (2 * (n / 2)) n next

    pub odd_fits : 2 ≤ n → n % 2 ≢ 0 → Alike double (compose half half) → All FitsAt (chain (n / 2)) → Fits (compose half half) → Fits (compose double x) → All FitsAt (chain n)
    odd_fits two odd is_double halves fits last =
        chain_join FitsAt n two
        (record { half = halves; double = laws.fits_alike _ _ square_is fits; whole = laws.fits_alike _ _ (odd_is odd is_double) last })

    pub odd_must_fit : 2 ≤ n → n % 2 ≢ 0 → Alike double (compose half half) → All FitsAt (chain n) → Fits (compose double x)
    odd_must_fit two odd is_double all = laws.fits_alike _ _ (back (odd_is odd is_double)) (chain_split FitsAt n two all).whole
