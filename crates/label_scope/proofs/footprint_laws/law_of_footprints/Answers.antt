use Rattle.label_scope.specs.Footprints.{footprint}
use Rattle.label_scope.proofs.Alike.{turned}
use Rattle.label_scope.proofs.FootprintLemma.{cut_same}
use Rattle.label_scope.proofs.SameMembers.{members_same, between_members_same}
use Rattle.label_scope.proofs.footprint_laws.law_of_footprints.Goals as goal

pub returns-clause-path : goal.returns-clause-path
returns-clause-path c = λ p a b g h x y good also agree. (cut_same p a b g h x y good also agree, cut_same p a b h g x y also good (turned g h (footprint p a b) agree))

pub returns-clause-members : goal.returns-clause-members
returns-clause-members c = members_same

pub returns-clause-between : goal.returns-clause-between
returns-clause-between c = between_members_same
