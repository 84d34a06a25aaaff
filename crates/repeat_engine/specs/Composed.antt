-- What composition and union keep, and where a call of them answers Ok.
use Rattle.std.specs.Prelude.{ℕ, ◌≤◌, ◌^◌, Option, IfSome, Result, IfErr, MatchResult}
use Rattle.repeat_engine.specs.Powers.{Algebra, nth_power, union_of_powers}

-- the first includes the second: united with it, it stays what it is
abbrev pub Includes : {M : Type 0} → (M → M → Type 0) → Algebra M → M → M → Type 0
Includes Alike algebra x y = Alike (algebra.unite x y) x

-- it includes every power of x
abbrev pub IncludesPowers : {M : Type 0} → (M → M → Type 0) → Algebra M → M → M → Type 0
IncludesPowers Alike algebra v x = (n : ℕ) → Includes Alike algebra v (nth_power algebra x n)

-- Ok only where the condition holds, and a fault other than that of memory only if it fails
abbrev pub IsOkWhere : {T E : Type 0} → (E → Type 0) → Result T E → Type 0 → Type 0
IsOkWhere WantsMemory result Condition =
    MatchResult result (λ value. Condition) (λ fault. ¬ WantsMemory fault → ¬ Condition)

-- Some only where the condition holds, and a fault other than that of memory only if it fails
abbrev pub IsSomeWhere : {T E : Type 0} → (E → Type 0) → Result (Option T) E → Type 0 → Type 0
IsSomeWhere WantsMemory result Condition =
    MatchResult result (λ made. IfSome made (λ value. Condition)) (λ fault. ¬ WantsMemory fault → ¬ Condition)

-- a fault other than that of memory only if the condition fails
abbrev pub FailsOnlyWithout : {T E : Type 0} → (E → Type 0) → Result T E → Type 0 → Type 0
FailsOnlyWithout WantsMemory result Condition = IfErr result (λ fault. ¬ WantsMemory fault → ¬ Condition)

module _ {M : Type 0} (Alike : M → M → Type 0) (Own Fits : M → Type 0) (algebra : Algebra M) where
  open algebra use {one, compose, unite}

  -- the laws under which squaring again and again gives the powers and their unions
  pub record IsLawful : Type 0 where
    -- likeness is an equality
    pub same : (x : M) → Alike x x
    pub turned : (x y : M) → Alike x y → Alike y x
    pub joined : (x y z : M) → Alike x y → Alike y z → Alike x z
    -- that nothing here sees through
    pub own_alike : (x y : M) → Alike x y → Own x → Own y
    pub fits_alike : (x y : M) → Alike x y → Fits x → Fits y
    pub composed_alike : (x y v w : M) → Alike x v → Alike y w → Alike (compose x y) (compose v w)
    pub united_alike : (x y v w : M) → Alike x v → Alike y w → Alike (unite x y) (unite v w)
    -- what is made of one's own is one's own
    pub own_one : Own one
    pub own_composed : (x y : M) → Own x → Own y → Own (compose x y)
    pub own_united : (x y : M) → Own x → Own y → Own (unite x y)
    -- composition is associative, and `one` is neutral for it
    pub associative : (x y z : M) → Own x → Own y → Own z → Alike (compose (compose x y) z) (compose x (compose y z))
    pub one_left : (x : M) → Own x → Alike (compose one x) x
    pub one_right : (x : M) → Own x → Alike (compose x one) x
    -- it distributes over union, from both sides
    pub over_left : (x y z : M) → Own x → Own y → Own z → Alike (compose (unite x y) z) (unite (compose x z) (compose y z))
    pub over_right : (x y z : M) → Own x → Own y → Own z → Alike (compose x (unite y z)) (unite (compose x y) (compose x z))
    -- union is associative, commutative and idempotent
    pub united_associative : (x y z : M) → Own x → Own y → Own z → Alike (unite (unite x y) z) (unite x (unite y z))
    pub united_commutative : (x y : M) → Own x → Own y → Alike (unite x y) (unite y x)
    pub united_twice : (x : M) → Own x → Alike (unite x x) x
    -- the union of the powers 0 to 2 ^ 60 includes every further power
    pub bounded : (x : M) (n : ℕ) → Own x → 2 ^ 60 ≤ n → Includes Alike algebra (union_of_powers algebra x (2 ^ 60)) (nth_power algebra x n)
