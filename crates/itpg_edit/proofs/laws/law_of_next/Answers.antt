use Rattle.itpg_edit.proofs.Unbroken.{next_good}
use Rattle.itpg_edit.proofs.Exists.{next_exists}
use Rattle.itpg_edit.proofs.Unique.{next_unique}
use Rattle.itpg_edit.proofs.laws.law_of_next.Goals as goal

pub returns-clause-some : goal.returns-clause-some
returns-clause-some c = next_exists

pub returns-clause-good : goal.returns-clause-good
returns-clause-good c = next_good

pub returns-clause-one : goal.returns-clause-one
returns-clause-one c = next_unique
