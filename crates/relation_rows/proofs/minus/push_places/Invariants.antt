use Rattle.std.proofs.Common.{take}
use Rattle.relation_rows.proofs.Leaving.{PlacesPushed}
use Rattle.relation_rows.proofs.minus.push_places.Given as goal

abbrev pub invariant-loop-place : goal.invariant-loop-place
invariant-loop-place l = PlacesPushed l.initial.zones.items (take l.place-index l.fn.places) l.zones.items
