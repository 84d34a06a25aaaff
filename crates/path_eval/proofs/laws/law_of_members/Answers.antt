use Rattle.path_eval.proofs.Finite.{fit_or_wide, fit_apart}
use Rattle.path_eval.proofs.laws.law_of_members.Goals as goal

pub returns-clause-either : goal.returns-clause-either
returns-clause-either c = fit_or_wide

pub returns-clause-apart : goal.returns-clause-apart
returns-clause-apart c = fit_apart
