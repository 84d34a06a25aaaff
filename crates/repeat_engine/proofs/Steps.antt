-- What each call gives along the way to a union of powers.
use Rattle.std.proofs.Common.{◌≡◌, ℕ, ◌+◌, ◌*◌, ◌/◌, ◌%◌, ◌≢◌, ◌<◌, ◌≤◌, Bool, true, false, Option, Some, None, Result, Ok, Err, IfOk, IfSome, IsTrue, sym, subst, arith, All}
use Rattle.std.specs.Result.{result_ok}
use Rattle.std.proofs.lemmas.List.Elements.{All-from_recursion}
use Rattle.itpg_base.specs.Chains.{chain}
use Rattle.repeat_engine.specs.declared.grown_union.Fresh.{Fresh}
use Rattle.repeat_engine.specs.declared.grown_union.Grown.{Grown}
use Rattle.repeat_engine.specs.Powers.{Algebra, union_of_powers}
use Rattle.repeat_engine.specs.Composed.{IsLawful}
use Rattle.repeat_engine.specs.GrownUnions.{newest_or, newest_part, IsFormer, IsFresh, IsLatestStep, IsNewest, IsSound, Grows, GrowsOn}
use Rattle.repeat_engine.proofs.ChainLaws.{chain_one, chain_first, chain_split, chain_join}
use Rattle.repeat_engine.proofs.UnionLaws.{own_union, union_first}
use Rattle.repeat_engine.proofs.Order.{first_side, second_side}
use Rattle.repeat_engine.proofs.Growth.{to_sum, step_made, double_made, square_new, rest_new, whole_new, new_alike, former_alike, former_first, former_more, all_stay}

pub pick : {V : Type 0} (P : V → Type 0) (o : Option V) (all : V) → IfSome o P → P all → P (newest_or o all)
pick P (Some d) all some whole = some
pick P None all some whole = whole

-- of a result that is kept where it is Ok
pub kept : {T E : Type 0} (P Q : T → Type 0) → ((v : T) → P v → Q v) → (r : Result T E) (o : Option T) → o ≡ result_ok r → IfOk r P → IfSome o Q
kept P Q f (Ok v) o e h = subst (λ (w : Option _). IfSome w Q) (sym e) (f v h)
kept P Q f (Err fault) o e h = subst (λ (w : Option _). IfSome w Q) (sym e) tt

pub no_truth : {A : Type 0} → IsTrue false → A
no_truth t = absurd (grind (arith, t))

false_not_true : (b : Bool) → b ≡ false → IsTrue b → ⊥
false_not_true true e t = grind (arith, e, t)
false_not_true false e t = grind (arith, e, t)

module _ {M : Type 0} {Alike : M → M → Type 0} {Own Fits : M → Type 0} {algebra : Algebra M} (laws : IsLawful Alike Own Fits algebra) {V : Type 0} (means : V → M) where
  open algebra use {one, compose, unite}

  infixl 10 ◌~◌
  ◌~◌ : {a b c : M} → Alike a b → Alike b c → Alike a c
  p ~ q = laws.joined _ _ _ p q

  back : {a b : M} → Alike a b → Alike b a
  back p = laws.turned _ _ p

  abbrev Sound : Grown V → Type 0
  Sound g = IsSound Own Fits means g

  -- the part that is new
  pub own_part : (g : Grown V) (part : V) → part ≡ newest_part g → Sound g → Own (means part)
  own_part g part e s = subst (λ (v : V). Own (means v)) (sym e) (pick (λ v. Own (means v)) g.newest g.all s.own_newest s.own_all)

  module _ (x : M) (own : Own x) where
    abbrev To : ℕ → M
    To n = union_of_powers algebra x n

    abbrev New : ℕ → M → Type 0
    New k d = IsNewest Alike algebra x k d

    abbrev At : ℕ → Grown V → Type 0
    At k g = Grows Alike algebra x means k g

    abbrev On : ℕ → Grown V → Type 0
    On k g = GrowsOn Alike algebra x means k g

    abbrev Former : ℕ → M → Type 0
    Former k w = IsFormer Alike algebra x k w

    -- what is new, with nothing of fewer powers
    pub alone_is : (n : ℕ) (f : Fresh V) (v : V) → f.newest ≡ v → f.former ≡ None → New n (means v) → IsFresh Alike algebra x means n f
    alone_is n f v e none new = record {
      newest = subst (λ (w : V). New n (means w)) (sym e) new;
      former = subst (λ (o : Option V). IfSome o (λ w. Former n (means w))) (sym none) tt;
    }

    pub on_below : (k : ℕ) (g : Grown V) → On k g → (k < k + 1) × (k < k + k)
    on_below k g on = let some = on.some in (omega arith, omega (arith, some))

    pub new_part : (k : ℕ) (g : Grown V) (part : V) → part ≡ newest_part g → On k g → New k (means part)
    new_part k g part e on =
        let at = on.grows in
        subst (λ (v : V). New k (means v)) (sym e)
        (pick (λ v. New k (means v)) g.newest g.all (at.newest on.more)
        (new_alike laws x own k (To k) (means g.all) (back at.is) (whole_new laws x own k on.some)))

    module _ (k : ℕ) (g : Grown V) (on : On k g) where
      -- what was made with it by a step, and by going twice as far
      pub step_makes : (part : V) (made : M) → part ≡ newest_part g → Sound g → Alike made (compose (means part) x) → Alike (unite (To k) made) (To (k + 1))
      step_makes part made e s value =
          second_side laws (To k) value ~ step_made laws x own k (means part) (own_part g part e s) (new_part k g part e on)

      pub double_makes : (part : V) (made : M) → part ≡ newest_part g → Sound g → Alike made (compose (means part) (means g.all)) → Alike (unite (To k) made) (To (k + k))
      double_makes part made e s value =
          let at = on.grows in
          second_side laws (To k) (value ~ laws.composed_alike _ _ _ _ (laws.same _) at.is)
          ~ double_made laws x own k (means part) (own_part g part e s) (new_part k g part e on)

      module _ (n : ℕ) (made : M) (makes : Alike (unite (To k) made) (To n)) where
        united_is : Alike (unite (means g.all) made) (To n)
        united_is = let at = on.grows in first_side laws made at.is ~ makes

        -- and by what of it is beyond the nearer union
        pub rest_makes : (rest : M) → Alike (unite (means g.all) rest) (unite (means g.all) made) → Alike (unite (To k) rest) (To n)
        rest_makes rest value = let at = on.grows in first_side laws rest (back at.is) ~ value ~ united_is

        pub is_united : (all : M) → Alike all (unite (means g.all) made) → Alike all (To n)
        is_united all value = value ~ united_is

        pub united_fits : Fits (unite (means g.all) made) → Fits (To n)
        united_fits fits = laws.fits_alike _ _ united_is fits

        pub united_must_fit : Fits (To n) → Fits (unite (means g.all) made)
        united_must_fit fits = laws.fits_alike _ _ (back united_is) fits

      -- and without it
      whole_step : (first : M) → Alike first (To 1) → Alike (compose (means g.all) first) (To (k + 1))
      whole_step first is_first = let at = on.grows in laws.composed_alike _ _ _ _ at.is is_first ~ to_sum laws x own k 1

      pub is_whole_step : (first all : M) → Alike first (To 1) → Alike all (compose (means g.all) first) → Alike all (To (k + 1))
      is_whole_step first all is_first value = value ~ whole_step first is_first

      pub whole_step_fits : (first : M) → Alike first (To 1) → Fits (compose (means g.all) first) → Fits (To (k + 1))
      whole_step_fits first is_first fits = laws.fits_alike _ _ (whole_step first is_first) fits

      pub whole_step_must_fit : (first : M) → Alike first (To 1) → Fits (To (k + 1)) → Fits (compose (means g.all) first)
      whole_step_must_fit first is_first fits = laws.fits_alike _ _ (back (whole_step first is_first)) fits

      whole_double : Alike (compose (means g.all) (means g.all)) (To (k + k))
      whole_double = let at = on.grows in laws.composed_alike _ _ _ _ at.is at.is ~ to_sum laws x own k k

      pub is_whole_double : (all : M) → Alike all (compose (means g.all) (means g.all)) → Alike all (To (k + k))
      is_whole_double all value = value ~ whole_double

      pub whole_double_fits : Fits (compose (means g.all) (means g.all)) → Fits (To (k + k))
      whole_double_fits fits = laws.fits_alike _ _ whole_double fits

      pub whole_double_must_fit : Fits (To (k + k)) → Fits (compose (means g.all) (means g.all))
      whole_double_must_fit fits = laws.fits_alike _ _ (back whole_double) fits

      -- what is new, composed with itself
      pub square_is_new : (d : V) (square : M) → g.newest ≡ Some d → Own (means d) → Alike square (compose (means d) (means d)) → New (k + k) square
      square_is_new d square e own_d value =
          let at = on.grows in
          let new : New k (means d) = subst (λ (o : Option V). IfSome o (λ v. New k (means v))) e (at.newest on.more) in
          new_alike laws x own (k + k) _ _ (back value) (square_new laws x own k (means d) own_d new)

      -- and without what the nearer union has
      pub rest_is_new : (d : V) (square rest : M) → g.newest ≡ Some d → Own (means d) → Own square → Own rest → Alike square (compose (means d) (means d)) → Alike (unite (means g.all) rest) (unite (means g.all) square) → New (k + k) rest
      rest_is_new d square rest e own_d own_square own_rest value beyond =
          let at = on.grows in
          let new : New k (means d) = subst (λ (o : Option V). IfSome o (λ v. New k (means v))) e (at.newest on.more) in
          let same : Alike (unite (To k) rest) (unite (To k) square) = first_side laws rest (back at.is) ~ beyond ~ first_side laws square at.is in
          rest_new laws x own k (means d) square rest own_d own_square own_rest new value same

      -- something of fewer powers than twice as many
      pub former_is_whole : (w : M) → Alike w (unite (means g.all) (means g.all)) → Former (k + k) w
      former_is_whole w value =
          let at = on.grows in
          let same : Alike w (To k) = value ~ laws.united_alike _ _ _ _ at.is at.is ~ laws.united_twice (To k) (own_union laws x own k) in
          former_alike laws x own (k + k) (To k) w (back same) (former_first laws x own k on.some)

      pub former_is_more : (d f : V) (made w : M) → g.newest ≡ Some d → g.former ≡ Some f → Sound g → Alike made (compose (means d) (means f)) → Alike w (unite (means g.all) made) → Former (k + k) w
      former_is_more d f made w e h s value is =
          let at = on.grows in
          let new : New k (means d) = subst (λ (o : Option V). IfSome o (λ v. New k (means v))) e (at.newest on.more) in
          let old : Former k (means f) = subst (λ (o : Option V). IfSome o (λ v. Former k (means v))) h (at.former on.more) in
          let own_d : Own (means d) = subst (λ (o : Option V). IfSome o (λ v. Own (means v))) e s.own_newest in
          let own_f : Own (means f) = subst (λ (o : Option V). IfSome o (λ v. Own (means v))) h s.own_former in
          let same : Alike w (unite (To k) (compose (means d) (means f))) = is ~ laws.united_alike _ _ _ _ at.is value in
          former_alike laws x own (k + k) _ w (back same) (former_more laws x own k (means d) (means f) own_d own_f new old)

      module _ (n : ℕ) (below : k < n) (all : M) (is : Alike all (To n)) where
        -- where nothing was added, nothing is added from there on
        pub nothing_more : Alike all (means g.all) → (m : ℕ) → n ≤ m → Alike (To m) (To n)
        nothing_more same m above =
            let at = on.grows in
            let alike : Alike (To n) (To k) = back is ~ same ~ at.is in
            let far : k ≤ m = omega (arith, below, above) in
            all_stay laws x own k n below alike m far ~ back alike

    -- where no further power adds anything, it is each further union
    pub done_at : (k n : ℕ) (g : Grown V) → k ≤ n → IsTrue g.done → At k g → At n g
    done_at k n g le done at = record {
      is = at.is ~ back (at.stays done n le);
      newest = λ e. absurd (false_not_true g.done e done);
      former = λ e. absurd (false_not_true g.done e done);
      stays = λ t m above. let far : k ≤ m = omega (arith, le, above) in at.stays t m far ~ back (at.stays t n le);
    }

    pub at_same : (k n : ℕ) (g : Grown V) → k ≡ n → At k g → At n g
    at_same k n g e at = subst (λ (i : ℕ). At i g) e at

    pub at_result : {E : Type 0} (k n : ℕ) (r : Result (Grown V) E) → k ≡ n → IfOk r (λ g. At k g) → IfOk r (λ g. At n g)
    at_result k n (Ok g) e at = at_same k n g e at
    at_result k n (Err fault) e at = tt

    -- where there may be more
    pub on_of : (k : ℕ) (g : Grown V) → 1 ≤ k → At k g → g.done ≡ false → On k g
    on_of k g some at more = record { some = some; grows = at; more = more }

    -- from the union of the powers 0 and 1
    pub first_new : (d : M) → Alike d (unite x x) → New 1 d
    unfolding union_of_powers
    first_new d value = record {
      fewer = 0;
      below = omega arith;
      makes = second_side laws one (value ~ laws.united_twice x own) ~ union_first laws x own;
    }

    module _ (first : M) (own_first : Own first) (is_first : Alike first (To 1)) where
      pub first_is : Alike (unite first first) (To 1)
      first_is = laws.united_twice first own_first ~ is_first

      pub first_fits : Fits (unite first first) → Fits (To 1)
      first_fits fits = laws.fits_alike _ _ first_is fits

      pub first_must_fit : Fits (To 1) → Fits (unite first first)
      first_must_fit fits = laws.fits_alike _ _ (back first_is) fits

    -- along the chain
    abbrev FitsTo : ℕ → Type 0
    FitsTo k = Fits (To k)

    pub one_fits : (n : ℕ) → n ≡ 1 → Fits (To 1) → All FitsTo (chain n)
    one_fits n e fits = subst (λ (k : ℕ). All FitsTo (chain k)) (sym e) (All-from_recursion FitsTo (chain 1) (rw chain_one (fits, tt)))

    pub one_must_fit : (n : ℕ) → n ≡ 1 → All FitsTo (chain n) → Fits (To 1)
    one_must_fit n e all = chain_first FitsTo n (omega (arith, e)) all

    pub half_must_fit : (n : ℕ) → 2 ≤ n → All FitsTo (chain n) → All FitsTo (chain (n / 2))
    half_must_fit n two all = (chain_split FitsTo n two all).half

    pub double_must_fit : (n : ℕ) → 2 ≤ n → All FitsTo (chain n) → Fits (To (n / 2 + n / 2))
    double_must_fit n two all = subst FitsTo (let e : 2 * (n / 2) ≡ n / 2 + n / 2 = omega arith in e) (chain_split FitsTo n two all).double

    joined : (n : ℕ) → 2 ≤ n → All FitsTo (chain (n / 2)) → Fits (To (n / 2 + n / 2)) → Fits (To n) → All FitsTo (chain n)
    joined n two halves double whole =
        chain_join FitsTo n two
        (record { half = halves; double = subst FitsTo (let e : n / 2 + n / 2 ≡ 2 * (n / 2) = omega arith in e) double; whole = whole })

    pub even_fits : (n : ℕ) → 2 ≤ n → n % 2 ≡ 0 → All FitsTo (chain (n / 2)) → Fits (To (n / 2 + n / 2)) → All FitsTo (chain n)
    even_fits n two even halves double =
        joined n two halves double (subst FitsTo (let e : n / 2 + n / 2 ≡ n = omega (arith, even) in e) double)

    pub at_fits : (n : ℕ) (g : Grown V) → At n g → Fits (means g.all) → Fits (To n)
    at_fits n g at fits = laws.fits_alike _ _ at.is fits

    pub done_half_fits : (n : ℕ) (g : Grown V) → 2 ≤ n → All FitsTo (chain (n / 2)) → At (n / 2) g → IsTrue g.done → Fits (means g.all) → All FitsTo (chain n)
    done_half_fits n g two halves at done fits =
        joined n two halves
        (at_fits (n / 2 + n / 2) g (done_at (n / 2) (n / 2 + n / 2) g (omega arith) done at) fits)
        (at_fits n g (done_at (n / 2) n g (omega arith) done at) fits)

    pub done_double_fits : (n : ℕ) (g : Grown V) → 2 ≤ n → All FitsTo (chain (n / 2)) → At (n / 2 + n / 2) g → IsTrue g.done → Fits (means g.all) → All FitsTo (chain n)
    done_double_fits n g two halves at done fits =
        joined n two halves
        (at_fits (n / 2 + n / 2) g at fits)
        (at_fits n g (done_at (n / 2 + n / 2) n g (omega arith) done at) fits)

    pub odd_fits : (n : ℕ) → 2 ≤ n → n % 2 ≢ 0 → All FitsTo (chain (n / 2)) → Fits (To (n / 2 + n / 2)) → Fits (To (n / 2 + n / 2 + 1)) → All FitsTo (chain n)
    odd_fits n two odd halves double last =
        joined n two halves double (subst FitsTo (let e : n / 2 + n / 2 + 1 ≡ n = omega (arith, odd) in e) last)

    pub odd_must_fit : (n : ℕ) → 2 ≤ n → n % 2 ≢ 0 → All FitsTo (chain n) → Fits (To (n / 2 + n / 2 + 1))
    odd_must_fit n two odd all =
        subst FitsTo (let e : n ≡ n / 2 + n / 2 + 1 = omega (arith, odd) in e) (chain_split FitsTo n two all).whole

    -- single steps
    abbrev IsLatest : ℕ → ℕ → Option (Grown V) → Type 0
    IsLatest k i last = IsLatestStep Alike algebra x Own Fits means k i last

    pub latest_sound : (k i : ℕ) (last : Option (Grown V)) (half from : Grown V) → from ≡ newest_or last half → IsLatest k i last → Sound half → Sound from
    latest_sound k i (Some g) half from e at s = subst Sound (sym e) at.0
    latest_sound k i None half from e at s = subst Sound (sym e) s

    pub latest_on : (k i : ℕ) (last : Option (Grown V)) (half from : Grown V) → from ≡ newest_or last half → IsLatest k i last → On k half → On (k + i) from
    latest_on k i (Some g) half from e at on = subst (λ (v : Grown V). On (k + i) v) (sym e) at.1
    latest_on k i None half from e at on =
        subst (λ (v : Grown V). On (k + i) v) (sym e) (subst (λ (j : ℕ). On j half) (let f : k ≡ k + i = omega (arith, at) in f) on)

    pub latest_next : (k i : ℕ) (g : Grown V) → 1 ≤ k → g.done ≡ false → Sound g → At (k + i + 1) g → IsLatest k (i + 1) (Some g)
    latest_next k i g some more s at =
        (s, on_of (k + (i + 1)) g (omega (arith, some)) (at_same (k + i + 1) (k + (i + 1)) g (omega arith) at) more)

    pub last_sound : (k i : ℕ) (last : Option (Grown V)) → IsLatest k i last → IfSome last Sound
    last_sound k i (Some g) at = at.0
    last_sound k i None at = tt

    pub last_at : (k i : ℕ) (last : Option (Grown V)) → i ≡ k → IsLatest k i last → IfSome last (λ g. At (k + k) g)
    last_at k i (Some g) e at = let on = at.1 in at_same (k + i) (k + k) g (let f : k + i ≡ k + k = omega (arith, e) in f) on.grows
    last_at k i None e at = tt
