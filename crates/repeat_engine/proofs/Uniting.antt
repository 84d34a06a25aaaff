-- The unions of the powers 0 alone, and 0 and 1.
use Rattle.std.proofs.Common.{◌≡◌, ℕ, ◌≤◌, sym, subst, All}
use Rattle.std.proofs.lemmas.List.Elements.{All-from_recursion}
use Rattle.itpg_base.specs.Chains.{chain}
use Rattle.repeat_engine.specs.Powers.{Algebra, union_of_powers}
use Rattle.repeat_engine.specs.Composed.{IsLawful}
use Rattle.repeat_engine.proofs.ChainLaws.{chain_zero, chain_first}
use Rattle.repeat_engine.proofs.PowerLaws.{same_at}
use Rattle.repeat_engine.proofs.UnionLaws.{own_first, union_first}

module _ {M : Type 0} {Alike : M → M → Type 0} {Own Fits : M → Type 0} {algebra : Algebra M} (laws : IsLawful Alike Own Fits algebra) (x : M) (own : Own x) where
  open algebra use {one, compose, unite}

  infixl 10 ◌~◌
  ◌~◌ : {a b c : M} → Alike a b → Alike b c → Alike a c
  p ~ q = laws.joined _ _ _ p q

  back : {a b : M} → Alike a b → Alike b a
  back p = laws.turned _ _ p

  abbrev To : ℕ → M
  To n = union_of_powers algebra x n

  abbrev FitsTo : ℕ → Type 0
  FitsTo k = Fits (To k)

  abbrev UpToFits : ℕ → Type 0
  UpToFits n = Fits one × All FitsTo (chain n)

  pub none_is : (o : M) (n : ℕ) → n ≡ 0 → Alike o one → Alike o (To n)
  unfolding union_of_powers
  none_is o n e is_one = is_one ~ same_at laws To 0 n (sym e)

  pub none_fits : (n : ℕ) → n ≡ 0 → All FitsTo (chain n)
  none_fits n e = subst (λ (k : ℕ). All FitsTo (chain k)) (sym e) (All-from_recursion FitsTo (chain 0) (rw chain_zero tt))

  module _ (o : M) (is_one : Alike o one) where
    is_first : Alike (unite o x) (unite one x)
    is_first = laws.united_alike _ _ _ _ is_one (laws.same x)

    pub first_own : Own (unite o x)
    first_own = laws.own_alike _ _ (back is_first) (own_first laws x own)

    pub first_is : Alike (unite o x) (To 1)
    first_is = is_first ~ union_first laws x own

    pub first_must_fit : (n : ℕ) → 1 ≤ n → UpToFits n → Fits (unite o x)
    first_must_fit n some all = laws.fits_alike _ _ (back first_is) (chain_first FitsTo n some all.1)
