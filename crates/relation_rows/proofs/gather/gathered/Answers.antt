use Rattle.std.proofs.Common.{List, sym, subst, arith}
use Rattle.relation_rows.specs.declared.rows.Row.{Row}
use Rattle.relation_rows.specs.Relations.{ItemsHold}
use Rattle.relation_rows.proofs.Alike.{relation_of}
use Rattle.relation_rows.proofs.Gathering.{HasGathered, start, step_gathered, step_wide, all_gathered}
use Rattle.relation_rows.proofs.gather.gathered.Goals as goal

pub loop-first-init : goal.loop-first-init
loop-first-init c = (
  subst (λ (v : List Row). HasGathered c.args.items.now c.args.items.now v) (sym c.in_ok-rows.ensures.items) (start c.args.items.now c.requires),
  rw c.in_ok-rows.ensures.items (omega arith),
)

pub returns-then-len-room-clause-gives : goal.returns-then-len-room-clause-gives
returns-then-len-room-clause-gives c = step_wide c.args.items.now c.loop-first.left.now c.loop-first.rows.items c.loop-first.invariant.0 c.in-Some.first.now c.in-Some.ensures.value c.first_count.result
    c.first_count.ensures.same c.first_count.ensures.later c.split_at.result.0.now c.split_at.result.1.now c.split_at.ensures.front c.split_at.ensures.back
    c.find_bands.new.bands.items c.deref.result.now c.deref.ensures.value c.in_ok-find_bands.ensures.normal c.in_ok-find_bands.ensures.formed
    c.push_bands.new.rows.items c.in_ok-push_bands.ensures c.args.room (omega arith)

pub loop-first-preserved : goal.loop-first-preserved
loop-first-preserved c = (
  step_gathered c.args.items.now c.loop-first.left.now c.loop-first.rows.items c.loop-first.invariant.0 c.in-Some.first.now c.in-Some.ensures.value c.first_count.result
      c.first_count.ensures.same c.first_count.ensures.later c.split_at.result.0.now c.split_at.result.1.now c.split_at.ensures.front c.split_at.ensures.back
      c.find_bands.new.bands.items c.deref.result.now c.deref.ensures.value c.in_ok-find_bands.ensures.normal c.in_ok-find_bands.ensures.formed
      c.push_bands.new.rows.items c.in_ok-push_bands.ensures,
  omega arith,
)

pub invariant_of-result : goal.invariant_of-result
invariant_of-result c = relation_of (ItemsHold c.args.items.now) c.loop-first.rows.items (all_gathered c.args.items.now c.loop-first.left.now c.loop-first.rows.items c.in_default.ensures.value c.loop-first.invariant.0) (c.loop-first.invariant.0).formed
