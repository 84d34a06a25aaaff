use Rattle.std.proofs.Common.{◌≡◌, length}
use Rattle.plan_cache.specs.Former.{AreFormer}
use Rattle.plan_cache.proofs.refilling.former_numbers.Given as goal

abbrev pub invariant-loop-number : goal.invariant-loop-number
invariant-loop-number l = record {
  each : length l.former.items ≡ l.number;
  former : AreFormer l.standing l.nodes l.former.items;
}
