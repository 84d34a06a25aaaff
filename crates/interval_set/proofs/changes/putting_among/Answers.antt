use Rattle.std.proofs.Common.{◌≡◌, ◌-◌, Some, map, take, drop, option_map, slice_get, subst, sym}
use Rattle.std.specs.Int.{int_min, int_max}
use Rattle.itpg_base.specs.Spans.{Span}
use Rattle.interval_set.specs.Borders.{MeetsBefore, MeetsAfter}
use Rattle.interval_set.specs.Runs.{AreRunsOf, HasPut}
use Rattle.interval_set.proofs.Parts.{replaced-map, middle-map, last-map}
use Rattle.interval_set.proofs.Put.{reaches_by, put_at}
use Rattle.interval_set.proofs.changes.putting_among.Goals as goal

pub returns-clause-runs : goal.returns-clause-runs
returns-clause-runs g c =
    let run = g.T.Spanned.as_run in
    let items = c.args.items.now in
    let item = run c.args.item in
    let own = run c.over.result in
    let first = c.args.first in
    let last = c.args.last in
    let near = take (last - first) (drop first items) in
    let runs_near = take (last - first) (drop first (map run items)) in
    let same = middle-map run (last - first) first items in
    let before = c.begin_among-before.result.0 in
    let after = c.end_among-after.result.0 in
    let begin = c.begin_among-before.result.1 in
    let end = c.end_among-after.result.1 in
    let meets_before = subst (λ ys. MeetsBefore (slice_get ys 0) item (option_map run before) begin) same c.begin_among-before.ensures in
    let meets_after = last-map (λ o. MeetsAfter o item (option_map run after) end) run near runs_near same c.end_among-after.ensures in
    let reaches = reaches_by item own begin end c.reaching.result c.over.ensures
    (subst (λ (s : Span). c.reaching.result.from ≡ int_min s.from begin.from) c.span.ensures c.reaching.ensures.from)
    (subst (λ (s : Span). c.reaching.result.to ≡ int_max s.to end.to) c.span.ensures c.reaching.ensures.to) in
    subst (AreRunsOf (HasPut (map run items) item.span item.value)) (sym (replaced-map run first last before (Some c.over.result) after items))
    (put_at (map run items) item own first last (option_map run before) (option_map run after) begin end c.requires.runs c.requires.span c.requires.neighbours meets_before meets_after reaches)
