use Rattle.std.proofs.Common.{◌≡◌, length}
use Rattle.plan_cache.specs.Former.{IsMoving}
use Rattle.plan_cache.proofs.refilling.move_all.Given as goal

abbrev pub invariant-loop-place : goal.invariant-loop-place
invariant-loop-place l = record {
  moving : IsMoving l.place l.former l.fn.from.kept l.from.kept l.to.kept;
  feet : l.to.feet ≡ l.fn.to.feet;
  each : length l.to.kept ≡ length l.fn.to.kept;
}
