use Rattle.std.proofs.Common.{⊎_elim}
use Rattle.label_scope.proofs.Within.{within_met, met_within_first, within_joined_first, within_joined_second, joined_within}
use Rattle.label_scope.proofs.laws.law_of_met_and_joined_scopes.Goals as goal

pub returns-clause-met : goal.returns-clause-met
returns-clause-met c = λ a b g o. within_met g o a b

pub returns-clause-first : goal.returns-clause-first
returns-clause-first c = λ a b g o. met_within_first g o a b

pub returns-clause-joined : goal.returns-clause-joined
returns-clause-joined c = λ a b g o. (joined_within g o a b, ⊎_elim (within_joined_first g o a b) (within_joined_second g o a b))
