use Rattle.label_scope.specs.Footprints.{footprint, footprint_between}
use Rattle.label_scope.proofs.Inside.{footprint_inside, between_inside}
use Rattle.itpg_session.proofs.Untouched.{untouched}
use Rattle.itpg_session.proofs.laws.law_of_untouched.Goals as goal

pub returns-clause-path : goal.returns-clause-path
returns-clause-path c = λ g new edit touch p a b good makes unmet. untouched g new edit touch (footprint p a b) (footprint_inside p a b) good makes.next makes.touches unmet

pub returns-clause-between : goal.returns-clause-between
returns-clause-between c = λ g new edit touch p a b good makes unmet.
    untouched g new edit touch (footprint_between p a b) (between_inside p a b) good makes.next makes.touches unmet
