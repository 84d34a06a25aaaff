use Rattle.band_normal.proofs.Unique.{normal_unique}
use Rattle.band_normal.proofs.laws.law_of_uniqueness.Goals as goal

pub returns : goal.returns
returns g c = normal_unique _
