use Rattle.std.proofs.Common.{◌∙◌, ap, subst, ℤ, ◌<ℤ◌, SFits, w64, to_z-of_z, rules}
use Rattle.itpg_base.specs.Spans.{Span, IsSpan}
use Rattle.condition_eval.proofs.Points.{last_ordered, above_of, below_run}
use Rattle.condition_eval.proofs.Sharing.{lesser_of}
use Rattle.condition_eval.proofs.leaves.push_below.Goals as goal

pub unwrap-early-requires : goal.unwrap-early-requires
unwrap-early-requires c =
    let k : SFits w64 c.args.k = c.ranges.k in
    let begin : SFits w64 c.from.result = search rules in
    let early : SFits w64 c.last_below.result = search rules in
    let from : SFits w64 c.from-3.result = search rules in
    let to : SFits w64 c.to.result = search rules in
    let last : SFits w64 c.min-last.result = search rules in
    let past = simp to_z-of_z at c.if-k-from.false in
    let below = simp to_z-of_z at c.last_below.ensures in
    let min = simp to_z-of_z at c.min-last.ensures.value in
    let told = simp to_z-of_z at c.new.ensures.ordered in
    let above : c.args.span.from <ℤ c.args.k = subst (λ (v : ℤ). v <ℤ c.args.k) c.from.ensures.value (above_of c.args.k c.from.result past) in
    let ordered = last_ordered c.args.span.from c.args.span.to c.args.k c.min-last.result c.to.ensures.ordered above (lesser_of _ _ _ _ _ min c.to.ensures.value below) in
    told.1 (rw c.from-3.ensures.value ordered)

pub returns : goal.returns
returns c =
    let k : SFits w64 c.args.k = c.ranges.k in
    let early : SFits w64 c.last_below.result = search rules in
    let from : SFits w64 c.from-3.result = search rules in
    let to : SFits w64 c.to.result = search rules in
    let last : SFits w64 c.min-last.result = search rules in
    let below = simp to_z-of_z at c.last_below.ensures in
    let min = simp to_z-of_z at c.min-last.ensures.value in
    let made = simp to_z-of_z at (rw c.unwrap-early.ensures at c.new.ensures.value) in
    let pushed = c.in_ok-push.ensures.items in
    let span : IsSpan c.unwrap-early.result = search rules in
    below_run c.args.object c.args.span c.unwrap-early.result c.args.k span (ap (λ (s : Span). s.from) made ∙ c.from-3.ensures.value)
    (ap (λ (s : Span). s.to) made ∙ lesser_of _ _ _ _ _ min c.to.ensures.value below) _ _ pushed
