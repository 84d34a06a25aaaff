use Rattle.itpg_session.proofs.TickSteps.{tick_step}
use Rattle.itpg_session.specs.PlainWatches.{all_plain}
use Rattle.itpg_session.specs.Keeping.{IsStale}
use Rattle.itpg_session.proofs.WorkedFor.{again_for}
use Rattle.itpg_session.proofs.KeptTicks.{kept_step}
use Rattle.itpg_session.proofs.ticking.tick_all.Goals as goal

pub loop-place-preserved : goal.loop-place-preserved
loop-place-preserved c = record {
  found = tick_step c.args.graph.now c.args.max_rows c.args.watches.now c.loop-place.place c.loop-place.found.items c.push.new.self.items c.in_ok-tick_one.field-0 c.loop-place.invariant.found c.in_ok-tick_one.ensures.found c.in_ok-push.ensures.items;
  still_right = c.tick_one.ensures.still_right;
  worked = again_for (IsStale (all_plain c.args.watches.now)) c.args.plans.now c.loop-place.plans c.tick_one.new.plans c.loop-place.invariant.worked c.tick_one.ensures.worked;
  keeps = kept_step c.args.graph.now c.args.max_rows c.loop-place.plans c.tick_one.new.plans c.args.watches.now c.loop-place.place c.loop-place.found.items c.push.new.self.items
      c.in_ok-tick_one.field-0 c.tick_one.ensures.worked.worked c.loop-place.invariant.found c.loop-place.invariant.keeps c.in_ok-tick_one.ensures.keeps c.in_ok-push.ensures.items;
}
