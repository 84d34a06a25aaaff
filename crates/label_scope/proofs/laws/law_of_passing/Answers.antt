use Rattle.label_scope.proofs.Inner.{walk_within}
use Rattle.label_scope.proofs.laws.law_of_passing.Goals as goal

pub returns : goal.returns
returns c = λ r a b g x y points good. walk_within g good r (record { sources = a; targets = b }) x y points
