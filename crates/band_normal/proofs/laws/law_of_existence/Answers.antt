use Rattle.std.specs.Prelude.{IsTrue}
use Rattle.itpg_base.proofs.Searches.{is_true}
use Rattle.band_normal.proofs.Existence.{normal_exists}
use Rattle.band_normal.proofs.laws.law_of_existence.Goals as goal

pub returns : goal.returns
returns c = λ test low high lies. normal_exists (λ t u. IsTrue (test t u)) low high lies (λ t u. is_true (test t u))
