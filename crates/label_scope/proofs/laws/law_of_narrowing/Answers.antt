use Rattle.label_scope.proofs.Within.{narrowed_cut, widened_cut}
use Rattle.label_scope.proofs.laws.law_of_narrowing.Goals as goal

pub returns : goal.returns
returns c = λ p a b g x y good. (narrowed_cut p a b g x y good, widened_cut p a b g x y)
