use Rattle.std.proofs.Common.{refl}
use Rattle.question_hints.proofs.laws.times_passed_by_short_paths.Goals as goal

pub returns : goal.returns
returns c = record {
  next = refl;
  previous = refl;
  stepping = refl;
  behind = refl;
  either = refl;
  body = refl;
  first = refl;
  node = refl;
  last = refl;
  bounded = refl;
  beside = refl;
  within = refl;
  asked = refl;
  condition = refl;
  looking = refl;
  pattern = refl;
}
