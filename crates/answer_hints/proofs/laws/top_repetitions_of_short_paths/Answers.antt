use Rattle.std.proofs.Common.{refl}
use Rattle.std.specs.Fmt.{digits}
use Rattle.answer_hints.proofs.laws.top_repetitions_of_short_paths.Goals as goal

pub returns : goal.returns
unfolding digits
returns c = record { both = refl; whole = refl; none = refl; text = refl }
