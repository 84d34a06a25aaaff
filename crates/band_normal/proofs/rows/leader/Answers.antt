use Rattle.band_normal.proofs.LineLemmas.{first_in}
use Rattle.band_normal.proofs.rows.leader.Goals as goal

pub continues-requires-clause-row_formed : goal.continues-requires-clause-row_formed
continues-requires-clause-row_formed c = c.requires.rows_formed _ (first_in _ _ c.in_ok-row.ensures.value)
