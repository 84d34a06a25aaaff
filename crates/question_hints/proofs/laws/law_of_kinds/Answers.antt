use Rattle.question_hints.proofs.KindLemmas.{leads_nowhere}
use Rattle.question_hints.proofs.laws.law_of_kinds.Goals as goal

pub returns : goal.returns
returns c = leads_nowhere
