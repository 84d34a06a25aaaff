use Rattle.std.proofs.Common.{◌≡◌, Option, Some, None, inl, inr, refl}
use Rattle.itpg_base.specs.Words.{Word}
use Rattle.interval_set.proofs.ExistsValues.{SomeValue, runs_of_exist}
use Rattle.interval_set.proofs.laws.law_of_existing_values.Goals as goal

decide_option : (o : Option Word) → SomeValue (λ value. o ≡ Some value)
decide_option None = inr (λ value e. let no : ⊥ = cc in no)
decide_option (Some value) = inl (value, refl)

one_option : (o : Option Word) (v w : Word) → o ≡ Some v → o ≡ Some w → v ≡ w
one_option o v w e f = cc

pub returns : goal.returns
returns c = λ value_at low high lies. runs_of_exist (λ t value. value_at t ≡ Some value) low high (λ t value e. (lies t value e).0) (λ t value e. (lies t value e).1) (λ t v w h k. one_option (value_at t) v w h k) (λ t. decide_option (value_at t))
