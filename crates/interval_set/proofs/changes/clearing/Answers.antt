use Rattle.std.proofs.Common.{◌-◌, None, map, take, drop, option_map, slice_get, subst, sym}
use Rattle.interval_set.specs.Borders.{LeavesBefore, LeavesAfter}
use Rattle.interval_set.specs.Runs.{AreRunsOf, HasCleared}
use Rattle.interval_set.proofs.Parts.{replaced-map, middle-map, last-map}
use Rattle.interval_set.proofs.Cleared.{clear_at}
use Rattle.interval_set.proofs.changes.clearing.Goals as goal

pub returns-clause-runs : goal.returns-clause-runs
returns-clause-runs g c =
    let run = g.T.Spanned.as_run in
    let items = c.args.items.now in
    let s = c.args.s in
    let first = c.neighbours-first.result.0 in
    let last = c.neighbours-first.result.1 in
    let near = take (last - first) (drop first items) in
    let runs_near = take (last - first) (drop first (map run items)) in
    let same = middle-map run (last - first) first items in
    let left = option_map run c.left_before.result in
    let right = option_map run c.left_after.result in
    let leaves_before = subst (λ ys. LeavesBefore (slice_get ys 0) s left) same c.left_before.ensures in
    let leaves_after = last-map (λ o. LeavesAfter o s right) run near runs_near same c.left_after.ensures in
    subst (AreRunsOf (HasCleared (map run items) s)) (sym (replaced-map run first last c.left_before.result None c.left_after.result items))
    (clear_at (map run items) s first last left right c.requires c.neighbours-first.ensures.ordered c.neighbours-first.ensures.places leaves_before leaves_after)
