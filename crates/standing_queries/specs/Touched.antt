-- What an edit's touch leaves of the watches.
use Rattle.std.specs.Prelude.{◌≡◌, ℕ, zero, suc, List, [], ◌∷◌, None, slice_get, slice_set, Some}
use Rattle.std.specs.List.{AllZip}
use Rattle.itpg_base.specs.declared.touch.Touch.{Touch}
use Rattle.label_scope.specs.Touching.{Meets}
use Rattle.standing_queries.specs.Watches.{Watch}

-- of a watch nothing changes but its kept answer, which goes exactly if the footprint meets the touch
pub record IsTouched (touch : Touch) (old new : Watch) : Type 0 where
  pub same : new ≡ record old { now = new.now }
  pub gone : Meets old.foot touch → new.now ≡ None
  pub stays : (¬ Meets old.foot touch) → new.now ≡ old.now

-- so it is with each watch
abbrev pub AreTouched : Touch → List Watch → List Watch → Type 0
AreTouched touch old new = AllZip (IsTouched touch) old new

-- with the watch at a place alone
abbrev pub IsTouchedAt : ℕ → Touch → List Watch → List Watch → Type 0
IsTouchedAt place touch old new = (w v : Watch) × (slice_get old place ≡ Some w) × IsTouched touch w v × (new ≡ slice_set old place v)

-- with the first n watches, and the rest are as they were
abbrev pub AreTouchedFirst : ℕ → Touch → List Watch → List Watch → Type 0
AreTouchedFirst zero touch old new = new ≡ old
AreTouchedFirst (suc n) touch [] new = new ≡ []
AreTouchedFirst (suc n) touch (w ∷ old) [] = ⊥
AreTouchedFirst (suc n) touch (w ∷ old) (v ∷ new) = IsTouched touch w v × AreTouchedFirst n touch old new
