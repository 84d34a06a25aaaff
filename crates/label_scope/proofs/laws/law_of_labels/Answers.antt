use Rattle.std.proofs.Common.{inl, inr}
use Rattle.label_scope.proofs.Placing.{has_first_list, has_second_list, from_either, either-rising}
use Rattle.label_scope.proofs.laws.law_of_labels.Goals as goal

pub returns-clause-either : goal.returns-clause-either
returns-clause-either c = λ these others label. (
  from_either these others label,
  λ h. elim h [ inl one ↦ has_first_list these others label one | inr other ↦ has_second_list these others label other ],
)

pub returns-clause-rising : goal.returns-clause-rising
returns-clause-rising c = either-rising
