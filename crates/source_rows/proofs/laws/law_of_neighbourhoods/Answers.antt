use Rattle.source_rows.proofs.Nearing.{neighbourhood, path_within}
use Rattle.source_rows.proofs.laws.law_of_neighbourhoods.Goals as goal

pub returns-clause-same : goal.returns-clause-same
returns-clause-same c = neighbourhood

pub returns-clause-within : goal.returns-clause-within
returns-clause-within c = path_within
