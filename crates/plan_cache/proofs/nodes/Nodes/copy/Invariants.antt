use Rattle.std.proofs.Common.{◌≡◌, length, take}
use Rattle.plan_cache.proofs.Copied.{AreOwn}
use Rattle.plan_cache.proofs.nodes.Nodes.copy.Given as goal

abbrev pub invariant-loop-number : goal.invariant-loop-number
invariant-loop-number l = record {
  first : l.copy ≡ take l.number l.self;
  each : length l.numbers.items ≡ l.number;
  own : AreOwn l.numbers.items;
}
