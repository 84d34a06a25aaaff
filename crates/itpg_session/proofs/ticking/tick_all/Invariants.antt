use Rattle.std.proofs.Common.{map, take}
use Rattle.itpg_session.specs.PlainWatches.{all_plain}
use Rattle.itpg_session.specs.Ticks.{ticked_of, AreTicked}
use Rattle.plan_cache.specs.RightRows.{IsTableRight}
use Rattle.itpg_session.specs.Keeping.{IsWorkedFor, IsStale, KeepAllTicked}
use Rattle.itpg_session.proofs.ticking.tick_all.Given as goal

abbrev pub invariant-loop-place : goal.invariant-loop-place
invariant-loop-place l = record {
  found : AreTicked l.graph l.max_rows (take l.place (all_plain l.watches)) (map ticked_of l.found.items);
  still_right : IsTableRight l.graph l.max_rows l.plans;
  worked : IsWorkedFor (IsStale (all_plain l.watches)) l.initial.plans l.plans;
  keeps : KeepAllTicked l.graph l.plans (take l.place (all_plain l.watches)) (map ticked_of l.found.items);
}
