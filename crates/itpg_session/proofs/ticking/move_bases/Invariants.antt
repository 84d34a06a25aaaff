use Rattle.std.proofs.Common.{◌≡◌, length, map, take}
use Rattle.itpg_session.specs.Ticks.{ticked_of}
use Rattle.itpg_session.proofs.TickSteps.{moved_from}
use Rattle.itpg_session.proofs.ticking.move_bases.Given as goal

abbrev pub invariant-loop-one : goal.invariant-loop-one
invariant-loop-one l = record {
  left : take (length l.found.items) (map ticked_of l.initial.found.items) ≡ map ticked_of l.found.items;
  moved : l.watches ≡ moved_from (length l.found.items) l.initial.watches (map ticked_of l.initial.found.items);
}

abbrev pub decreases-loop-one : goal.decreases-loop-one
decreases-loop-one l = length l.found.items
