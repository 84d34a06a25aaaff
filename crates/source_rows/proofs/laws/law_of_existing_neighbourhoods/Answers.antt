use Rattle.source_rows.specs.Reach.{Reach}
use Rattle.source_rows.proofs.NearLists.{near_list, one_part}
use Rattle.source_rows.proofs.laws.law_of_existing_neighbourhoods.Goals as goal

pub returns-clause-list : goal.returns-clause-list
returns-clause-list c = near_list

pub returns-clause-one : goal.returns-clause-one
returns-clause-one c = λ g o bound a b. one_part g (Reach g o bound) a b
