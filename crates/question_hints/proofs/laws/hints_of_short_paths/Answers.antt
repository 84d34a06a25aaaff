use Rattle.std.proofs.Common.{refl}
use Rattle.question_hints.proofs.laws.hints_of_short_paths.Goals as goal

pub returns : goal.returns
returns c = record { pattern = refl; edge = refl; person = refl; kind = refl; twice = refl; either = refl }
