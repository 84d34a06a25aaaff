use Rattle.relation_rows.proofs.Finite.{union_there, composition_there, identity_there, items_there, restriction_there, difference_there}
use Rattle.relation_rows.proofs.FiniteTimes.{rest_there}
use Rattle.relation_rows.proofs.laws.law_of_normal_rows.Goals as goal

pub returns : goal.returns
returns c = record {
  identity = identity_there;
  from_zones = items_there;
  union = union_there;
  compose = composition_there;
  restrict = restriction_there;
  minus = difference_there;
  times = rest_there;
}
