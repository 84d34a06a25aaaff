use Rattle.question_costs.proofs.NeededLaw.{too_wide_below}
use Rattle.question_costs.proofs.laws.law_of_needed_rows.Goals as goal

pub returns : goal.returns
returns c g limit usual n less p nodes root counts of needs l = too_wide_below g limit p nodes root counts of n less needs.some l
