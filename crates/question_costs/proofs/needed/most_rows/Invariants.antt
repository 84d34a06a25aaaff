use Rattle.question_costs.proofs.NeededLemmas.{IsGreatestSoFar}
use Rattle.question_costs.proofs.needed.most_rows.Given as goal

abbrev pub invariant-loop-member : goal.invariant-loop-member
invariant-loop-member l = IsGreatestSoFar l.members l.member-index l.most
