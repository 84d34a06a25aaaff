use Rattle.std.proofs.Common.{◌≡◌, length}
use Rattle.question_costs.proofs.KeptLemmas.{AreRight}
use Rattle.question_costs.proofs.kept.kept_in.Given as goal

abbrev pub invariant-loop-place : goal.invariant-loop-place
invariant-loop-place l = record {
  many : length l.kept.items ≡ l.place;
  right : AreRight l.fn.other.kept l.numbers.items l.place l.kept.items;
}
