-- How powers add up.
use Rattle.std.proofs.Common.{◌≡◌, ℕ, zero, suc, ◌+◌, ◌*◌, sym, subst, arith, add-suc, add-zero}
use Rattle.repeat_engine.specs.Powers.{Algebra, nth_power}
use Rattle.repeat_engine.specs.Composed.{IsLawful}

module _ {M : Type 0} {Alike : M → M → Type 0} {Own Fits : M → Type 0} {algebra : Algebra M} (laws : IsLawful Alike Own Fits algebra) where
  open algebra use {one, compose, unite}

  abbrev Pow : M → ℕ → M
  Pow x n = nth_power algebra x n

  infixl 10 ◌~◌
  pub ◌~◌ : {x y z : M} → Alike x y → Alike y z → Alike x z
  p ~ q = laws.joined _ _ _ p q

  pub back : {x y : M} → Alike x y → Alike y x
  back p = laws.turned _ _ p

  pub same_at : (f : ℕ → M) (m n : ℕ) → m ≡ n → Alike (f m) (f n)
  same_at f m n e = subst (λ (k : ℕ). Alike (f m) (f k)) e (laws.same (f m))

  pub first_arg : {x v : M} (y : M) → Alike x v → Alike (compose x y) (compose v y)
  first_arg y p = laws.composed_alike _ _ _ _ p (laws.same y)

  pub second_arg : {y w : M} (x : M) → Alike y w → Alike (compose x y) (compose x w)
  second_arg x p = laws.composed_alike _ _ _ _ (laws.same x) p

  pub squares_alike : {x v : M} → Alike x v → Alike (compose x x) (compose v v)
  squares_alike p = laws.composed_alike _ _ _ _ p p

  pub own_power : (x : M) → Own x → (n : ℕ) → Own (Pow x n)
  unfolding nth_power
  own_power x own zero = laws.own_one
  own_power x own (suc n) = laws.own_composed _ x (own_power x own n) own

  pub power_first : (x : M) → Own x → Alike (Pow x 1) x
  unfolding nth_power
  power_first x own = laws.one_left x own

  pub power_sum : (x : M) → Own x → (m n : ℕ) → Alike (compose (Pow x m) (Pow x n)) (Pow x (m + n))
  unfolding nth_power
  power_sum x own m zero = laws.one_right _ (own_power x own m) ~ same_at (Pow x) m (m + 0) (sym (add-zero m))
  power_sum x own m (suc n) =
      back (laws.associative _ _ _ (own_power x own m) (own_power x own n) own)
      ~ first_arg x (power_sum x own m n)
      ~ same_at (Pow x) (suc (m + n)) (m + suc n) (sym (add-suc m n))

  pub power_double : (x : M) → Own x → (n : ℕ) → Alike (compose (Pow x n) (Pow x n)) (Pow x (2 * n))
  power_double x own n = power_sum x own n n ~ same_at (Pow x) (n + n) (2 * n) (omega arith)

  pub power_next : (x : M) → Own x → (k n : ℕ) → n ≡ k + 1 → Alike (compose (Pow x k) x) (Pow x n)
  power_next x own k n e =
      second_arg (Pow x k) (back (power_first x own)) ~ power_sum x own k 1 ~ same_at (Pow x) (k + 1) n (sym e)
