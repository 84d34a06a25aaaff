-- From where two steps lead back to the same power, all further powers are two in turn.
use Rattle.std.proofs.Common.{◌≡◌, ◌≢◌, ℕ, zero, suc, ◌+◌, ◌-◌, ◌*◌, ◌/◌, ◌%◌, ◌≤◌, ◌⊎◌, inl, inr, Option, Some, None, IfSome, true, is_some, refl, sym, subst, arith, All}
use Rattle.itpg_base.specs.Chains.{chain}
use Rattle.repeat_engine.specs.declared.power_chain.Raised.{Raised}
use Rattle.repeat_engine.specs.Powers.{Algebra, nth_power}
use Rattle.repeat_engine.specs.Composed.{IsLawful}
use Rattle.repeat_engine.specs.RaisedPowers.{turned_with, IsTurned, IsNext}
use Rattle.repeat_engine.proofs.ChainLaws.{chain_join}
use Rattle.repeat_engine.proofs.PowerLaws.{power_sum, power_next, same_at, first_arg}

even_or_odd : (n : ℕ) → (n % 2 ≡ 0) ⊎ (n % 2 ≢ 0)
even_or_odd n = grind arith

module _ {M : Type 0} {Alike : M → M → Type 0} {Own Fits : M → Type 0} {algebra : Algebra M} (laws : IsLawful Alike Own Fits algebra) (x : M) (own : Own x) where
  open algebra use {one, compose, unite}

  infixl 10 ◌~◌
  ◌~◌ : {a b c : M} → Alike a b → Alike b c → Alike a c
  p ~ q = laws.joined _ _ _ p q

  back : {a b : M} → Alike a b → Alike b a
  back p = laws.turned _ _ p

  abbrev Pow : ℕ → M
  Pow n = nth_power algebra x n

  abbrev FitsAt : ℕ → Type 0
  FitsAt k = Fits (Pow k)

  abbrev Next : ℕ → M → Type 0
  Next n d = IsNext Alike Own Fits algebra x n d

  -- two more are no other power
  abbrev Returns : ℕ → Type 0
  Returns k = Alike (Pow (k + 2)) (Pow k)

  returns_later : (k m : ℕ) → k ≤ m → Returns k → Returns m
  returns_later k m le here =
      let d : ℕ = m - k in
      same_at laws Pow (m + 2) (k + 2 + d) (omega (arith, le))
      ~ back (power_sum laws x own (k + 2) d)
      ~ first_arg laws (Pow d) here
      ~ power_sum laws x own k d
      ~ same_at laws Pow (k + d) m (omega (arith, le))

  twice_more : (k : ℕ) → Returns k → (j : ℕ) → Alike (Pow (k + 2 * j)) (Pow k)
  twice_more k here zero = same_at laws Pow (k + 2 * 0) k (omega arith)
  twice_more k here (suc j) =
      same_at laws Pow (k + 2 * suc j) (k + 2 * j + 2) (omega arith)
      ~ returns_later k (k + 2 * j) (omega arith) here
      ~ twice_more k here j

  twice_on : (k n j : ℕ) → n ≡ k + 2 * j → Returns k → Alike (Pow k) (Pow n)
  twice_on k n j e here = back (twice_more k here j) ~ same_at laws Pow (k + 2 * j) n (sym e)

  module _ {V : Type 0} (means : V → M) where
    pub record IsRaised (n : ℕ) (r : Raised V) : Type 0 where
      pub is : Alike (means r.value) (Pow n)
      pub is_own : Own (means r.value)
      pub fits : Fits (means r.value)
      pub next : IfSome r.next (λ d. Next n (means d))

    module _ (k : ℕ) (r : Raised V) (at : IsRaised k r) (d : V) (some : r.next ≡ Some d) (next : Next k (means d)) where
      even_raised : (n j : ℕ) → n ≡ k + 2 * j → IsRaised n r
      even_raised n j e =
          let here = next.back in
          let later : Returns (k + 1) = returns_later k (k + 1) (omega arith) here in
          record {
            is = at.is ~ twice_on k n j e here;
            is_own = at.is_own;
            fits = at.fits;
            next = subst (λ (o : Option V). IfSome o (λ v. Next n (means v))) (sym some) (record {
              own = next.own;
              fits = next.fits;
              is = next.is ~ twice_on (k + 1) (n + 1) j (omega (arith, e)) later;
              back = returns_later k n (omega (arith, e)) here;
            });
          }

      odd_raised : (n j : ℕ) → n ≡ k + 1 + 2 * j → (s : Raised V) → turned_with r.value (Some d) s → IsRaised n s
      odd_raised n j e s turn =
          let here = next.back in
          let later : Returns (k + 1) = returns_later k (k + 1) (omega arith) here in
          record {
            is = subst (λ (v : V). Alike (means v) (Pow n)) (sym turn.0) (next.is ~ twice_on (k + 1) n j e later);
            is_own = subst (λ (v : V). Own (means v)) (sym turn.0) next.own;
            fits = subst (λ (v : V). Fits (means v)) (sym turn.0) next.fits;
            next = subst (λ (o : Option V). IfSome o (λ v. Next n (means v))) (sym turn.1) (record {
              own = at.is_own;
              fits = at.fits;
              is = at.is ~ twice_on k (n + 1) (j + 1) (omega (arith, e)) here;
              back = returns_later k n (omega (arith, e)) here;
            });
          }

      some_raised : (n : ℕ) → k ≤ n → (s : Raised V) → ((n - k) % 2 ≡ 0 → s ≡ r) → ((n - k) % 2 ≢ 0 → IsTurned r s) → IsRaised n s
      some_raised n le s even odd =
          elim (even_or_odd (n - k)) [
            | inl e ↦
                subst (λ (q : Raised V). IsRaised n q) (sym (even e)) (even_raised n ((n - k) / 2) (omega (arith, le, e)))
            | inr e ↦
                odd_raised n ((n - k) / 2) (omega (arith, le, e)) s
                (subst (λ (o : Option V). turned_with r.value o s) some (odd e))
          ]

      -- each further one fits, since it is one of two that do
      fits_on : (n : ℕ) → k ≤ n → FitsAt n
      fits_on n le =
          let here = next.back in
          let later : Returns (k + 1) = returns_later k (k + 1) (omega arith) here in
          elim (even_or_odd (n - k)) [
            | inl e ↦
                laws.fits_alike _ _ (at.is ~ twice_on k n ((n - k) / 2) (omega (arith, le, e)) here) at.fits
            | inr e ↦
                laws.fits_alike _ _ (next.is ~ twice_on (k + 1) n ((n - k) / 2) (omega (arith, le, e)) later) next.fits
          ]

    module _ (k : ℕ) (r : Raised V) (at : IsRaised k r) where
      with_next : {A : Type 0} → (o : Option V) → r.next ≡ o → is_some o ≡ true → IfSome o (λ d. Next k (means d)) → ((d : V) → r.next ≡ Some d → Next k (means d) → A) → A
      with_next (Some d) e some next f = f d e next
      with_next None e some next f = cc

      pub turned_raised : (n : ℕ) → k ≤ n → is_some r.next ≡ true → (s : Raised V) → ((n - k) % 2 ≡ 0 → s ≡ r) → ((n - k) % 2 ≢ 0 → IsTurned r s) → IsRaised n s
      turned_raised n le some s even odd =
          with_next r.next refl some at.next (λ d e next. some_raised k r at d e next n le s even odd)

      pub fits_further : (n : ℕ) → k ≤ n → is_some r.next ≡ true → FitsAt n
      fits_further n le some = with_next r.next refl some at.next (λ d e next. fits_on k r at d e next n le)

    pub done_fits : (n : ℕ) (r : Raised V) → 2 ≤ n → IsRaised (n / 2) r → is_some r.next ≡ true → All FitsAt (chain (n / 2)) → All FitsAt (chain n)
    done_fits n r two at some halves =
        chain_join FitsAt n two (record {
          half = halves;
          double = fits_further (n / 2) r at (2 * (n / 2)) (omega arith) some;
          whole = fits_further (n / 2) r at n (omega arith) some;
        })

  -- what one more step makes of a power, where another one leads back
  pub next_is : (n : ℕ) (power d : M) → Alike power (Pow n) → Own d → Fits d → Alike d (compose power x) → Alike (compose d x) power → Next n d
  next_is n power d is own_d fits_d step returns =
      let here : Alike d (Pow (n + 1)) = step ~ first_arg laws x is ~ power_next laws x own n (n + 1) (let e : n + 1 ≡ n + 1 = omega arith in e) in
      record {
        own = own_d;
        fits = fits_d;
        is = here;
        back = back (power_next laws x own (n + 1) (n + 2) (omega arith)) ~ first_arg laws x (back here) ~ returns ~ is;
      }

  pub next_some : {V : Type 0} (means : V → M) (n : ℕ) (power : M) (o : Option V) → Alike power (Pow n) → IfSome o (λ v. Own (means v)) → IfSome o (λ v. Fits (means v)) → IfSome o (λ v. Alike (means v) (compose power x)) → IfSome o (λ v. Alike (compose (means v) x) power) → IfSome o (λ d. Next n (means d))
  next_some means n power (Some d) is own_d fits_d step returns = next_is n power (means d) is own_d fits_d step returns
  next_some means n power None is own_d fits_d step returns = tt
