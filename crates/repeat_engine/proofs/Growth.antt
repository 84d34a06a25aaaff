-- How the union of the powers 0 to k grows by what is new in it.
use Rattle.std.proofs.Common.{◌≡◌, ℕ, zero, suc, ◌+◌, ◌-◌, ◌<◌, ◌≤◌, ◌⊎◌, inl, inr, sym, subst, arith, add-zero}
use Rattle.std.proofs.Math.Nat.{le-suc_iff}
use Rattle.repeat_engine.specs.Powers.{Algebra, nth_power, union_of_powers}
use Rattle.repeat_engine.specs.Composed.{IsLawful}
use Rattle.repeat_engine.specs.GrownUnions.{IsFormer, IsNewest}
use Rattle.repeat_engine.proofs.PowerLaws.{own_power, power_sum, same_at, first_arg, second_arg}
use Rattle.repeat_engine.proofs.UnionLaws.{own_union, own_first, power_of_first, union_first}
use Rattle.repeat_engine.proofs.Order.{first_side, second_side, Has, both_ways, through, has_right, has_left, has_both, has_alike, compose_has_left, compose_has_right}

ordered : (n m : ℕ) → (n ≤ m) ⊎ (m ≤ n)
ordered n m = grind arith

module _ {M : Type 0} {Alike : M → M → Type 0} {Own Fits : M → Type 0} {algebra : Algebra M} (laws : IsLawful Alike Own Fits algebra) (x : M) (own : Own x) where
  open algebra use {one, compose, unite}

  infixl 10 ◌~◌
  ◌~◌ : {a b c : M} → Alike a b → Alike b c → Alike a c
  p ~ q = laws.joined _ _ _ p q

  back : {a b : M} → Alike a b → Alike b a
  back p = laws.turned _ _ p

  abbrev To : ℕ → M
  To n = union_of_powers algebra x n

  own_to : (n : ℕ) → Own (To n)
  own_to n = own_union laws x own n

  -- the union of more powers holds that of fewer
  to_holds : (m n : ℕ) → m ≤ n → Has laws (To n) (To m)
  unfolding union_of_powers
  to_holds zero zero below = laws.united_twice one laws.own_one
  to_holds (suc m) zero below = absurd (omega (arith, below))
  to_holds m (suc n) below =
      let next : M = nth_power algebra x (suc n) in
      let own_next : Own next = own_power laws x own (suc n) in
      elim (le-suc_iff.0 below) [
        | inl before ↦
            through laws (unite (To n) next) (To n) (To m) (laws.own_united _ _ (own_to n) own_next) (own_to n) (own_to m)
            (has_left laws (To n) next (own_to n) own_next) (to_holds m n before)
        | inr last ↦
            subst (λ (i : ℕ). Has laws (unite (To n) next) (To i)) (sym last) (laws.united_twice _ (laws.own_united _ _ (own_to n) own_next))
      ]

  pub to_sum : (m n : ℕ) → Alike (compose (To m) (To n)) (To (m + n))
  to_sum m n =
      laws.composed_alike _ _ _ _ (back (power_of_first laws x own m)) (back (power_of_first laws x own n))
      ~ power_sum laws (unite one x) (own_first laws x own) m n
      ~ power_of_first laws x own (m + n)

  module _ (k j : ℕ) (d : M) (own_d : Own d) (below : j < k) (makes : Alike (unite (To j) d) (To k)) where
    -- what is new, and then up to m more
    abbrev Gained : ℕ → M
    Gained m = unite (To k) (compose d (To m))

    own_moved : (m : ℕ) → Own (compose d (To m))
    own_moved m = laws.own_composed d (To m) own_d (own_to m)

    own_gained : (m : ℕ) → Own (Gained m)
    own_gained m = laws.own_united _ _ (own_to k) (own_moved m)

    held_new : Has laws (To k) d
    held_new = has_alike laws makes (laws.same d) (has_right laws (To j) d (own_to j) own_d)

    lower : (m : ℕ) → Has laws (To (k + m)) (Gained m)
    lower m =
        has_both laws (To (k + m)) (To k) (compose d (To m)) (own_to (k + m)) (own_to k) (own_moved m)
        (to_holds k (k + m) (omega arith))
        (has_alike laws (to_sum k m) (laws.same _) (compose_has_left laws (To k) d (To m) (own_to k) own_d (own_to m) held_new))

    upper : (m : ℕ) → Has laws (Gained m) (To (k + m))
    upper zero =
        subst (λ (i : ℕ). Has laws (Gained zero) (To i)) (sym (add-zero k))
        (has_left laws (To k) (compose d (To zero)) (own_to k) (own_moved zero))
    upper (suc m) =
        let next : M = Gained (suc m) in
        let more : Has laws next (compose d (To m)) =
        through laws next (compose d (To (suc m))) (compose d (To m)) (own_gained (suc m)) (own_moved (suc m)) (own_moved m)
        (has_right laws (To k) (compose d (To (suc m))) (own_to k) (own_moved (suc m)))
        (compose_has_right laws d (To (suc m)) (To m) own_d (own_to (suc m)) (own_to m) (to_holds m (suc m) (omega arith))) in
        let last : Has laws next (Gained m) =
        has_both laws next (To k) (compose d (To m)) (own_gained (suc m)) (own_to k) (own_moved m)
        (has_left laws (To k) (compose d (To (suc m))) (own_to k) (own_moved (suc m))) more in
        let before : Has laws next (To (j + suc m)) =
        through laws next (To (k + m)) (To (j + suc m)) (own_gained (suc m)) (own_to (k + m)) (own_to (j + suc m))
        (through laws next (Gained m) (To (k + m)) (own_gained (suc m)) (own_gained m) (own_to (k + m)) last (upper m))
        (to_holds (j + suc m) (k + m) (omega (arith, below))) in
        let parts : Alike (unite (To (j + suc m)) (compose d (To (suc m)))) (To (k + suc m)) =
        first_side laws (compose d (To (suc m))) (back (to_sum j (suc m)))
        ~ back (laws.over_left (To j) d (To (suc m)) (own_to j) own_d (own_to (suc m)))
        ~ first_arg laws (To (suc m)) makes
        ~ to_sum k (suc m) in
        has_alike laws (laws.same next) parts
        (has_both laws next (To (j + suc m)) (compose d (To (suc m))) (own_gained (suc m)) (own_to (j + suc m)) (own_moved (suc m))
        before (has_right laws (To k) (compose d (To (suc m))) (own_to k) (own_moved (suc m))))

    gained_is : (m : ℕ) → Alike (Gained m) (To (k + m))
    gained_is m = both_ways laws (Gained m) (To (k + m)) (own_gained m) (own_to (k + m)) (upper m) (lower m)

    -- one step: what is new composed with x is all that is added
    step_is : Alike (unite (To k) (compose d x)) (To (k + 1))
    step_is =
        let own_step : Own (compose d x) = laws.own_composed d x own_d own in
        first_side laws (compose d x) (back held_new)
        ~ laws.united_associative (To k) d (compose d x) (own_to k) own_d own_step
        ~ second_side laws (To k)
        (first_side laws (compose d x) (back (laws.one_right d own_d))
        ~ back (laws.over_right d one x own_d laws.own_one own)
        ~ second_arg laws d (union_first laws x own))
        ~ gained_is 1

    -- what is new composed with itself is new in the double
    square_is : Alike (unite (To (k + j)) (compose d d)) (To (k + k))
    square_is =
        let own_square : Own (compose d d) = laws.own_composed d d own_d own_d in
        first_side laws (compose d d) (back (gained_is j))
        ~ laws.united_associative (To k) (compose d (To j)) (compose d d) (own_to k) (own_moved j) own_square
        ~ second_side laws (To k) (back (laws.over_right d (To j) d own_d (own_to j) own_d) ~ second_arg laws d makes)
        ~ gained_is k

  abbrev New : ℕ → M → Type 0
  New k d = IsNewest Alike algebra x k d

  pub step_made : (k : ℕ) (d : M) → Own d → New k d → Alike (unite (To k) (compose d x)) (To (k + 1))
  step_made k d own_d n = step_is k n.fewer d own_d n.below n.makes

  pub double_made : (k : ℕ) (d : M) → Own d → New k d → Alike (unite (To k) (compose d (To k))) (To (k + k))
  double_made k d own_d n = gained_is k n.fewer d own_d n.below n.makes k

  pub square_new : (k : ℕ) (d : M) → Own d → New k d → New (k + k) (compose d d)
  square_new k d own_d n =
      let below = n.below in
      record { fewer = k + n.fewer; below = omega (arith, below); makes = square_is k n.fewer d own_d n.below n.makes }

  -- and so is what of that is beyond the union of the powers 0 to k
  pub rest_new : (k : ℕ) (d square rest : M) → Own d → Own square → Own rest → New k d → Alike square (compose d d) → Alike (unite (To k) rest) (unite (To k) square) → New (k + k) rest
  rest_new k d square rest own_d own_square own_rest n is value =
      let far : ℕ = k + n.fewer in
      let below = n.below in
      let held : Alike (unite (To far) (To k)) (To far) = to_holds k far (omega arith) in
      record {
        fewer = far;
        below = omega (arith, below);
        makes =
            first_side laws rest (back held)
            ~ laws.united_associative (To far) (To k) rest (own_to far) (own_to k) own_rest
            ~ second_side laws (To far) value
            ~ back (laws.united_associative (To far) (To k) square (own_to far) (own_to k) own_square)
            ~ first_side laws square held
            ~ second_side laws (To far) is
            ~ square_is k n.fewer d own_d n.below n.makes;
      }

  -- what makes the further union of a nearer one is new there
  pub made_new : (k n : ℕ) (d : M) → k < n → Alike (unite (To k) d) (To n) → New n d
  made_new k n d below makes = record { fewer = k; below = below; makes = makes }

  pub whole_new : (k : ℕ) → 1 ≤ k → New k (To k)
  whole_new k some =
      record {
        fewer = 0;
        below = omega (arith, some);
        makes = laws.united_commutative (To 0) (To k) (own_to 0) (own_to k) ~ to_holds 0 k (omega arith);
      }

  pub new_alike : (k : ℕ) (d e : M) → Alike d e → New k d → New k e
  new_alike k d e same n =
      record { fewer = n.fewer; below = n.below; makes = second_side laws (To n.fewer) (back same) ~ n.makes }

  -- ---- what is in the union of fewer powers

  abbrev Former : ℕ → M → Type 0
  Former k w = IsFormer Alike algebra x k w

  pub former_alike : (n : ℕ) (w v : M) → Alike w v → Former n w → Former n v
  former_alike n w v same f = record { fewer = f.fewer; below = f.below; within = has_alike laws (laws.same _) same f.within }

  -- twice as far, the union is
  pub former_first : (k : ℕ) → 1 ≤ k → Former (k + k) (To k)
  former_first k some = record { fewer = k; below = omega (arith, some); within = laws.united_twice (To k) (own_to k) }

  -- and with it, what is new composed with what is in the union of fewer
  pub former_more : (k : ℕ) (d w : M) → Own d → Own w → New k d → Former k w → Former (k + k) (unite (To k) (compose d w))
  former_more k d w own_d own_w n f = record {
    fewer = k + f.fewer;
    below = let b = f.below in omega (arith, b);
    within =
        has_both laws (To (k + f.fewer)) (To k) (compose d w) (own_to (k + f.fewer)) (own_to k) own_both
        (to_holds k (k + f.fewer) (omega arith))
        (has_alike laws (to_sum k f.fewer) (laws.same _)
        (through laws (compose (To k) (To f.fewer)) (compose d (To f.fewer)) (compose d w)
        (laws.own_composed _ _ (own_to k) (own_to f.fewer)) (laws.own_composed _ _ own_d (own_to f.fewer)) own_both
        (compose_has_left laws (To k) d (To f.fewer) (own_to k) own_d (own_to f.fewer) (held_new k n.fewer d own_d n.below n.makes))
        (compose_has_right laws d (To f.fewer) w own_d (own_to f.fewer) own_w f.within)));
  }
    where
      own_both : Own (compose d w)
      own_both = laws.own_composed d w own_d own_w

  less_at : (n m : ℕ) (former rest less : M) → Own former → Own rest → Own less → (f : Former n former) (r : New n rest) → f.fewer ≤ m → r.fewer ≤ m → m < n
      → Alike (unite former less) (unite former rest) → New n less
  less_at n m former rest less own_former own_rest own_less f r low_f low_r below value =
      let held : Has laws (To m) former =
      through laws (To m) (To f.fewer) former (own_to m) (own_to f.fewer) own_former (to_holds f.fewer m low_f) f.within in
      record {
        fewer = m;
        below = below;
        makes =
            first_side laws less (back held)
            ~ laws.united_associative (To m) former less (own_to m) own_former own_less
            ~ second_side laws (To m) value
            ~ back (laws.united_associative (To m) former rest (own_to m) own_former own_rest)
            ~ first_side laws rest held
            ~ first_side laws rest (back (to_holds r.fewer m low_r))
            ~ laws.united_associative (To m) (To r.fewer) rest (own_to m) (own_to r.fewer) own_rest
            ~ second_side laws (To m) r.makes
            ~ laws.united_commutative (To m) (To n) (own_to m) (own_to n)
            ~ to_holds m n (omega (arith, below));
      }

  -- what is new is new still without it
  pub less_new : (n : ℕ) (former rest less : M) → Own former → Own rest → Own less → Former n former → New n rest → Alike (unite former less) (unite former rest) → New n less
  less_new n former rest less own_former own_rest own_less f r value =
      elim (ordered f.fewer r.fewer) [
        | inl le ↦ less_at n r.fewer former rest less own_former own_rest own_less f r le (omega arith) r.below value
        | inr le ↦ less_at n f.fewer former rest less own_former own_rest own_less f r (omega arith) le f.below value
      ]

  -- from where a further union is alike, all are
  pub all_stay : (k n : ℕ) → k < n → Alike (To n) (To k) → (m : ℕ) → k ≤ m → Alike (To m) (To k)
  all_stay k n below same m above =
      let next : Alike (To (k + 1)) (To k) =
      both_ways laws (To (k + 1)) (To k) (own_to (k + 1)) (own_to k) (to_holds k (k + 1) (omega arith))
      (has_alike laws same (laws.same (To (k + 1))) (to_holds (k + 1) n (omega (arith, below)))) in
      let sum : m ≡ k + (m - k) = omega (arith, above) in
      same_at laws To m (k + (m - k)) sum ~ stays next (m - k)
    where
      stays : Alike (To (k + 1)) (To k) → (d : ℕ) → Alike (To (k + d)) (To k)
      stays next zero = same_at laws To (k + 0) k (add-zero k)
      stays next (suc d) =
          same_at laws To (k + suc d) (k + d + 1) (omega arith)
          ~ back (to_sum (k + d) 1)
          ~ first_arg laws (To 1) (stays next d)
          ~ to_sum k 1
          ~ next
