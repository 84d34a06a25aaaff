use Rattle.std.proofs.Common.{List, sym, ◌∙◌, subst}
use Rattle.itpg_base.specs.Lists.{Among, Ordered}
use Rattle.itpg_base.proofs.Lists.{ordered_first, ordered_second}
use Rattle.relation_rows.specs.declared.rows.Row.{Row}
use Rattle.relation_rows.specs.Rows.{KeyBefore, RowBefore}
use Rattle.relation_rows.proofs.Equal.{row_decides}
use Rattle.relation_rows.proofs.StrikeLemmas.{striking_start, striking_both, striking_left, striking_right, striking_past, striking_past_more, striking_end}
use Rattle.relation_rows.proofs.strike.struck.Goals as goal

pub loop-row-init : goal.loop-row-init
loop-row-init c = striking_start c.args.first.now c.args.second.now _ _ c.in_ok-kept.ensures.items c.in_ok-cuts.ensures.items c.requires.first c.requires.second

pub loop-row-preserved-then-eq : goal.loop-row-preserved-then-eq
loop-row-preserved-then-eq c = striking_both _ _ _ _ _ _ _ _ _ _ c.in-Some.ensures.cases.0 c.in-Some-split_first.ensures.cases.0 ((row_decides c.in-Some.row.now c.in-Some-split_first.other.now).0 (sym c.eq.ensures ∙ c.if-eq.true)) c.requires.first c.loop-row.invariant

pub loop-row-preserved-then-lt : goal.loop-row-preserved-then-lt
loop-row-preserved-then-lt c =
    let pushed = c.in_ok-push.ensures.items in
    striking_left _ _ _ _ _ _ _ _ _ c.in-Some.ensures.cases.0 pushed c.loop-row.invariant

pub loop-row-preserved : goal.loop-row-preserved
loop-row-preserved c =
    let pushed = c.in_ok-push-2.ensures.items in
    striking_right _ _ _ _ _ _ _ _ _ c.in-Some-split_first.ensures.cases.0 pushed c.loop-row.invariant

pub returns : goal.returns
returns c =
    let kept = c.in_ok-extend_from_slice.ensures.items in
    let cuts = c.in_ok-extend_from_slice-2.ensures.items in
    let end = striking_end _ _ _ _ _ _ _ _ kept cuts c.loop-row.invariant in
    record { order = end.order; cuts_order = end.cuts_order; there = end.there; cuts_there = end.cuts_there; same = end.same }

pub leading_before-requires : goal.leading_before-requires
leading_before-requires c = (subst (λ (v : List Row). Ordered RowBefore v) c.in-Some-split_first.ensures.cases.0 (ordered_second RowBefore _ _ (c.loop-row.invariant).cuts_order)).1

pub loop-row-preserved-then-is_between : goal.loop-row-preserved-then-is_between
loop-row-preserved-then-is_between c =
    let same = c.deref.ensures.value in
    let before = subst (λ (v : List Row). (r : Row) → Among v r → KeyBefore r.source.0 r.target.0 c.in-Some-split_first.other.now.source.0 c.in-Some-split_first.other.now.target.0) same (c.is_between.ensures.kept c.if-is_between.true) in
    let order = subst (λ (v : List Row). Ordered RowBefore v) c.in-Some-split_first.ensures.cases.0 (ordered_second RowBefore _ _ (c.loop-row.invariant).cuts_order) in
    striking_past_more _ _ _ _ _ _ _ _ c.in-Some.row.now c.in-Some-split_first.other.now c.leading_before.result c.in-Some.ensures.cases.0 c.split_at.ensures.back c.leading_before.ensures.within c.leading_before.ensures.point order.0 before
    (striking_past _ _ _ _ _ _ _ _ c.in-Some.row.now c.in-Some-split_first.other.now c.in-Some.ensures.cases.0 c.in-Some-split_first.ensures.cases.0 (c.is_between.ensures.next c.if-is_between.true) before c.loop-row.invariant)

pub is_between-requires : goal.is_between-requires
is_between-requires c = subst (λ (v : List Row). Ordered RowBefore v) (sym c.deref.ensures.value) (ordered_first RowBefore _ _ (c.loop-row.invariant).order)
