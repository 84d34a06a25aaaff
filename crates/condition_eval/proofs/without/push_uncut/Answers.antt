use Rattle.std.proofs.Common.{◌∙◌, ap, refl, arith, SFits, w64, to_z-of_z, sym, true≢false}
use Rattle.std.proofs.lemmas.Int.{ints}
use Rattle.itpg_base.specs.Spans.{Span}
use Rattle.relation_rows.proofs.TimesMinus.{items_start, item_step, item_last, items_end}
use Rattle.condition_eval.proofs.without.push_uncut.Goals as goal

pub loop-cut-init : goal.loop-cut-init
loop-cut-init c =
    let fits : SFits w64 c.from-from.result = omega (arith, ints) in
    items_start c.args.row.now c.requires.span c.args.cuts.now c.requires.order c.requires.meets c.args.rows.now.items _ (to_z-of_z fits ∙ c.from-from.ensures.value)

pub returns-then-ends_within : goal.returns-then-ends_within
returns-then-ends_within c =
    let fits : SFits w64 c.from.result = omega (arith, ints) in
    item_last c.args.row.now c.requires.span c.args.cuts.now c.requires.order c.requires.meets c.args.rows.now.items c.loop-cut.cut-index _ _ c.loop-cut.invariant
    c.cut-item.result c.cut-item.is c.loop-cut-test.true _ (to_z-of_z fits ∙ c.from.ensures.value) _ c.in_ok-push_gap.ensures (c.if-ends_within.ensures.0 refl)

pub loop-cut-preserved : goal.loop-cut-preserved
loop-cut-preserved c =
    let fits : SFits w64 c.from.result = omega (arith, ints) in
    let fits' : SFits w64 c.first_after-from.result = omega (arith, ints) in
    item_step c.args.row.now c.requires.span c.args.cuts.now c.requires.order c.requires.meets c.args.rows.now.items c.loop-cut.cut-index _ _ c.loop-cut.invariant
    c.cut-item.result c.cut-item.is c.loop-cut-test.true _ (to_z-of_z fits ∙ c.from.ensures.value) _ c.in_ok-push_gap.ensures _ (to_z-of_z fits' ∙ c.first_after-from.ensures) (λ le. true≢false (sym (c.if-ends_within.ensures.1 le)))

pub returns : goal.returns
returns c =
    let to : SFits w64 c.to-2.result = omega (arith, ints) in
    let made = simp to_z-of_z at (rw c.unwrap.ensures at c.new.ensures.value) in
    items_end c.args.row.now c.requires.span c.args.cuts.now c.requires.order c.requires.meets c.args.rows.now.items c.loop-cut.cut-index _ _ c.loop-cut.invariant
    c.loop-cut-test.false c.unwrap.result (ap (λ (s : Span). s.from) made) (ap (λ (s : Span). s.to) made ∙ c.to-2.ensures.value) _ c.in_ok-push.ensures.items
