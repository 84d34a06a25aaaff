-- The union of the powers 0 to n is the n-th power of `one` united with x, and holds each of them.
use Rattle.std.proofs.Common.{ℕ, zero, suc, ◌^◌, ◌≤◌, ◌⊎◌, inl, inr, sym, subst, arith}
use Rattle.std.proofs.Math.Nat.{le-suc_iff}
use Rattle.repeat_engine.specs.Powers.{Algebra, nth_power, union_of_powers}
use Rattle.repeat_engine.specs.Composed.{IsLawful, Includes, IncludesPowers}
use Rattle.repeat_engine.proofs.PowerLaws.{own_power, power_first, first_arg}

within_or_beyond : (n m : ℕ) → (n ≤ m) ⊎ (m ≤ n)
within_or_beyond n m = grind arith

module _ {M : Type 0} {Alike : M → M → Type 0} {Own Fits : M → Type 0} {algebra : Algebra M} (laws : IsLawful Alike Own Fits algebra) where
  open algebra use {one, compose, unite}

  abbrev Pow : M → ℕ → M
  Pow x n = nth_power algebra x n

  abbrev To : M → ℕ → M
  To x n = union_of_powers algebra x n

  infixl 10 ◌~◌
  ◌~◌ : {x y z : M} → Alike x y → Alike y z → Alike x z
  p ~ q = laws.joined _ _ _ p q

  back : {x y : M} → Alike x y → Alike y x
  back p = laws.turned _ _ p

  first_side : {x v : M} (y : M) → Alike x v → Alike (unite x y) (unite v y)
  first_side y p = laws.united_alike _ _ _ _ p (laws.same y)

  second_side : {y w : M} (x : M) → Alike y w → Alike (unite x y) (unite x w)
  second_side x p = laws.united_alike _ _ _ _ (laws.same x) p

  pub own_union : (x : M) → Own x → (n : ℕ) → Own (To x n)
  unfolding union_of_powers
  own_union x own zero = laws.own_one
  own_union x own (suc n) = laws.own_united _ _ (own_union x own n) (own_power laws x own (suc n))

  -- all powers to n, and each of them composed once more
  pub union_more : (x : M) → Own x → (n : ℕ) → Alike (unite (To x n) (compose (To x n) x)) (To x (suc n))
  unfolding union_of_powers nth_power
  union_more x own zero = laws.same _
  union_more x own (suc n) =
      let to : M = To x n in
      let next : M = Pow x (suc n) in
      let own_to : Own to = own_union x own n in
      let own_next : Own next = own_power laws x own (suc n) in
      let own_moved : Own (compose to x) = laws.own_composed to x own_to own in
      let own_last : Own (compose next x) = laws.own_composed next x own_next own in
      let held : Alike (unite (unite to next) (compose to x)) (unite to next) =
      first_side (compose to x) (back (union_more x own n))
      ~ laws.united_associative to (compose to x) (compose to x) own_to own_moved own_moved
      ~ second_side to (laws.united_twice (compose to x) own_moved)
      ~ union_more x own n in
      second_side (unite to next) (laws.over_left to next x own_to own_next own)
      ~ back (laws.united_associative (unite to next) (compose to x) (compose next x) (laws.own_united to next own_to own_next) own_moved own_last)
      ~ first_side (compose next x) held

  pub own_first : (x : M) → Own x → Own (unite one x)
  own_first x own = laws.own_united one x laws.own_one own

  pub power_of_first : (x : M) → Own x → (n : ℕ) → Alike (Pow (unite one x) n) (To x n)
  unfolding union_of_powers nth_power
  power_of_first x own zero = laws.same one
  power_of_first x own (suc n) =
      let to : M = To x n in
      let own_to : Own to = own_union x own n in
      first_arg laws (unite one x) (power_of_first x own n)
      ~ laws.over_right to one x own_to laws.own_one own
      ~ first_side (compose to x) (laws.one_right to own_to)
      ~ union_more x own n

  pub union_first : (x : M) → Own x → Alike (unite one x) (To x 1)
  union_first x own = back (power_first laws (unite one x) (own_first x own)) ~ power_of_first x own 1

  union_holds : (x : M) → Own x → (k n : ℕ) → k ≤ n → Includes Alike algebra (To x n) (Pow x k)
  unfolding union_of_powers nth_power
  union_holds x own zero zero below = laws.united_twice one laws.own_one
  union_holds x own (suc k) zero below = absurd (omega (arith, below))
  union_holds x own k (suc n) below =
      let to : M = To x n in
      let next : M = Pow x (suc n) in
      let own_to : Own to = own_union x own n in
      let own_next : Own next = own_power laws x own (suc n) in
      let own_k : Own (Pow x k) = own_power laws x own k in
      elim (le-suc_iff.0 below) [
        | inl before ↦
            laws.united_associative to next (Pow x k) own_to own_next own_k
            ~ second_side to (laws.united_commutative next (Pow x k) own_next own_k)
            ~ back (laws.united_associative to (Pow x k) next own_to own_k own_next)
            ~ first_side next (union_holds x own k n before)
        | inr last ↦
            subst (λ (i : ℕ). Includes Alike algebra (unite to next) (Pow x i)) (sym last)
            (laws.united_associative to next next own_to own_next own_next ~ second_side to (laws.united_twice next own_next))
      ]

  -- what is alike to the union of the powers to 2 ^ 60 holds every power
  pub all_held : (x v : M) → Own x → Alike v (To x (2 ^ 60)) → IncludesPowers Alike algebra v x
  all_held x v own e n =
      let held : Includes Alike algebra (To x (2 ^ 60)) (Pow x n) =
      elim (within_or_beyond n (2 ^ 60)) [ inl below ↦ union_holds x own n (2 ^ 60) below | inr above ↦ laws.bounded x n own above ] in
      first_side (Pow x n) e ~ held ~ back e

  union_least : (x w : M) → Own x → Own w → IncludesPowers Alike algebra w x → (n : ℕ) → Includes Alike algebra w (To x n)
  unfolding union_of_powers nth_power
  union_least x w own own_w each zero = each 0
  union_least x w own own_w each (suc n) =
      let to : M = To x n in
      let next : M = Pow x (suc n) in
      back (laws.united_associative w to next own_w (own_union x own n) (own_power laws x own (suc n)))
      ~ first_side next (union_least x w own own_w each n)
      ~ each (suc n)

  -- and whatever holds every power holds it
  pub least_held : (x v : M) → Own x → Alike v (To x (2 ^ 60)) → (w : M) → Own w → IncludesPowers Alike algebra w x → Includes Alike algebra w v
  least_held x v own e w own_w each = second_side w e ~ union_least x w own own_w each (2 ^ 60)
