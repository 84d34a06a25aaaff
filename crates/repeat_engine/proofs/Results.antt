-- What a result says, said of something alike.
use Rattle.std.proofs.Common.{ℕ, Result, Ok, Err, IfOk, Option, Some, None, IfSome}
use Rattle.repeat_engine.specs.Powers.{Algebra}
use Rattle.repeat_engine.specs.Composed.{IsLawful, IsOkWhere, IsSomeWhere, FailsOnlyWithout}

-- Ok where the one condition holds is Ok where the other does
pub exact_as : {T E A B : Type 0} (WantsMemory : E → Type 0) (r : Result T E) → (A → B) → (B → A) → IsOkWhere WantsMemory r A → IsOkWhere WantsMemory r B
exact_as WantsMemory (Ok v) there back a = there a
exact_as WantsMemory (Err e) there back unfit = λ other b. unfit other (back b)

-- a fault only without the one condition is one only without what it follows from
pub fails_as : {T E A B : Type 0} (WantsMemory : E → Type 0) (r : Result T E) → (B → A) → FailsOnlyWithout WantsMemory r A → FailsOnlyWithout WantsMemory r B
fails_as WantsMemory (Ok v) there h = tt
fails_as WantsMemory (Err e) there h = λ other b. h other (there b)

module _ {M : Type 0} {Alike : M → M → Type 0} {Own Fits : M → Type 0} {algebra : Algebra M} (laws : IsLawful Alike Own Fits algebra) where
  -- what is alike to one's own is one's own, and what is alike to something that fits, fits
  pub own_from : (v m : M) → Alike v m → Own m → Own v
  own_from v m e own = laws.own_alike m v (laws.turned v m e) own

  pub fits_from : (v m : M) → Alike v m → Fits m → Fits v
  fits_from v m e fits = laws.fits_alike m v (laws.turned v m e) fits

  -- the same of what a result holds
  pub value_as : {T E : Type 0} (means : T → M) (r : Result T E) (m n : M) → Alike m n → IfOk r (λ v. Alike (means v) m) → IfOk r (λ v. Alike (means v) n)
  value_as means (Ok v) m n e h = laws.joined (means v) m n h e
  value_as means (Err fault) m n e h = tt

  pub own_result : {T E : Type 0} (means : T → M) (r : Result T E) (m : M) → Own m → IfOk r (λ v. Alike (means v) m) → IfOk r (λ v. Own (means v))
  own_result means (Ok v) m own h = own_from (means v) m h own
  own_result means (Err fault) m own h = tt

  pub fits_result : {T E : Type 0} (means : T → M) (WantsMemory : E → Type 0) (r : Result T E) (m : M) → IfOk r (λ v. Alike (means v) m) → IsOkWhere WantsMemory r (Fits m) → IfOk r (λ v. Fits (means v))
  fits_result means WantsMemory (Ok v) m h fits = fits_from (means v) m h fits
  fits_result means WantsMemory (Err fault) m h fits = tt

  -- and of a result that may hold nothing
  pub own_found : {T E : Type 0} (means : T → M) (r : Result (Option T) E) (m : M) → Own m → IfOk r (λ o. IfSome o (λ v. Alike (means v) m)) → IfOk r (λ o. IfSome o (λ v. Own (means v)))
  own_found means (Ok (Some v)) m own h = own_from (means v) m h own
  own_found means (Ok None) m own h = tt
  own_found means (Err fault) m own h = tt

  pub fits_found : {T E : Type 0} (means : T → M) (WantsMemory : E → Type 0) (r : Result (Option T) E) (m : M) → IfOk r (λ o. IfSome o (λ v. Alike (means v) m)) → IsSomeWhere WantsMemory r (Fits m) → IfOk r (λ o. IfSome o (λ v. Fits (means v)))
  fits_found means WantsMemory (Ok (Some v)) m h fits = fits_from (means v) m h fits
  fits_found means WantsMemory (Ok None) m h fits = tt
  fits_found means WantsMemory (Err fault) m h fits = tt

  -- and where each of some meanings fits
  pub each_fits_found : {T E : Type 0} (means : T → M) (r : Result (Option T) E) (of : ℕ → M) (n : ℕ) → IfOk r (λ o. IfSome o (λ v. Alike (means v) (of n)))
      → IfOk r (λ o. IfSome o (λ v. (k : ℕ) → Fits (of k))) → IfOk r (λ o. IfSome o (λ v. Fits (means v)))
  each_fits_found means (Ok (Some v)) of n h fit = fits_from (means v) (of n) h (fit n)
  each_fits_found means (Ok None) of n h fit = tt
  each_fits_found means (Err fault) of n h fit = tt
