use Rattle.std.proofs.Common.{inr, refl}
use Rattle.source_rows.proofs.examples.touched_by_edits.Goals as goal

pub returns-clause-end_of_dropped : goal.returns-clause-end_of_dropped
returns-clause-end_of_dropped c = inr (3, (refl, refl), (refl, inr refl))
