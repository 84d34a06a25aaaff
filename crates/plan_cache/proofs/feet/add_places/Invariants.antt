use Rattle.std.proofs.Common.{◌≡◌, ◌≤◌, length, take}
use Rattle.plan_cache.specs.Footprints.{footprints_of}
use Rattle.plan_cache.specs.KeptRows.{AddsFree}
use Rattle.plan_cache.proofs.feet.add_places.Given as goal

abbrev pub invariant-loop-number : goal.invariant-loop-number
invariant-loop-number l = record {
  feet : l.shelf.feet ≡ footprints_of (take l.number l.nodes);
  begun : length l.fn.shelf.feet ≤ l.number;
  each : length l.shelf.kept ≡ length l.shelf.feet;
  free : AddsFree l.fn.shelf.kept l.shelf.kept;
}
