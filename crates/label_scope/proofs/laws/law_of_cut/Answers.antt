use Rattle.label_scope.proofs.Within.{cut_all}
use Rattle.label_scope.proofs.laws.law_of_cut.Goals as goal

pub returns : goal.returns
returns c = λ p g x y. ((λ h. h.leads), cut_all p g x y)
