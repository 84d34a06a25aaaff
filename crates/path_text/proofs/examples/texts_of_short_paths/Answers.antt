use Rattle.std.proofs.Common.{refl}
use Rattle.std.specs.Fmt.{digits}
use Rattle.path_text.proofs.examples.texts_of_short_paths.Goals as goal

pub returns-clause-paths : goal.returns-clause-paths
unfolding digits
returns-clause-paths c = record { meeting = refl; waits = refl; either = refl; positive = refl; early = refl }
