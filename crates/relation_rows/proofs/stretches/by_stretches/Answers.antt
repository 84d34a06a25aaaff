use Rattle.std.proofs.Common.{◌≡◌, ◌⊎◌, ◌↔◌, ◌+◌, ◌++◌, ℕ, List, ap, sym, subst, ◌∙◌, length, arith}
use Rattle.std.proofs.lemmas.Result.{err_from_is_err_and}
use Rattle.itpg_base.specs.Lists.{Among}
use Rattle.band_normal.proofs.PartLemmas.{none_left}
use Rattle.relation_rows.specs.declared.rows.Row.{Row}
use Rattle.itpg_base.specs.Points.{Point}
use Rattle.relation_rows.specs.Rows.{RowsHold}
use Rattle.relation_rows.specs.Answers.{Gives}
use Rattle.relation_rows.specs.Relations.{Item, ItemsHold, HasMiddlePoint}
use Rattle.relation_rows.proofs.Giving.{gives_alike}
use Rattle.relation_rows.proofs.Counting.{IsUnderway, start, part_formed, step, count_all, fault_now, items_from, from_items}
use Rattle.relation_rows.proofs.stretches.by_stretches.Goals as goal

pub loop-left-init : goal.loop-left-init
loop-left-init c =
    start c.args.second.now c.args.rows.now c.new-kept.result.items c.in_ok-ways.ways.items c.args.room c.new-kept.ensures.items c.in_ok-ways.ensures.items c.requires.order

pub stretch_len-requires-clause-order : goal.stretch_len-requires-clause-order
stretch_len-requires-clause-order c = c.loop-left.invariant.order

pub with_ways-requires-clause-rows : goal.with_ways-requires-clause-rows
with_ways-requires-clause-rows c =
    part_formed c.args.second.now c.args.rows.now c.loop-left.left.now c.loop-left.kept.items c.loop-left.ways.items c.loop-left.count c.args.room c.loop-left.invariant
    c.split_at.result.0.now c.stretch_len.result c.split_at.ensures.front c.args.rows.now
    (λ r. (λ a. a, λ a. a)) c.requires.rows

pub returns-in_err-complete : goal.returns-in_err-complete
returns-in_err-complete c =
    let fault = err_from_is_err_and c.from_residual-in_err-complete.result c.from_residual-in_err-complete.ensures.1 in
    rw (fault.1, fault.2)
    (fault_now c.args.second.now c.args.rows.now c.loop-left.left.now c.loop-left.kept.items c.loop-left.ways.items c.loop-left.count c.args.room c.loop-left.invariant
    c.split_at.result.0.now c.split_at.result.1.now c.stretch_len.result c.split_at.ensures.by_index.0 c.split_at.ensures.front c.split_at.ensures.back c.stretch_len.ensures.apart
    c.in_ok-ways-2.ways.items c.in_ok-ways-2.ensures c.args.rows.now
    (λ r. (λ a. a, λ a. a)) _ c.in_err-complete.ensures.gives)

pub loop-left-preserved-in_ok-push_zones : goal.loop-left-preserved-in_ok-push_zones
loop-left-preserved-in_ok-push_zones c =
    let is = c.deref.ensures.value ∙ c.complete.view_is in
    let many : c.len-count.result ≡ length c.complete.inside.rows.items = omega arith in
    subst (λ (v : ℕ). IsUnderway c.args.second.now c.args.rows.now c.split_at.result.1.now c.push_zones.new.items.items c.new-ways.result.items (c.loop-left.count + v) c.args.room)
    (sym (many ∙ ap length c.complete.view_is))
    (count_all c.args.second.now c.args.rows.now c.loop-left.left.now c.loop-left.kept.items c.loop-left.ways.items c.loop-left.count c.args.room c.loop-left.invariant
    c.split_at.result.0.now c.split_at.result.1.now c.stretch_len.result c.split_at.ensures.by_index.0 c.split_at.ensures.front c.split_at.ensures.back c.stretch_len.ensures.apart
    c.in_ok-ways-2.ways.items c.in_ok-ways-2.ensures c.in_ok-complete.complete c.in_ok-complete.ensures.gives c.push_zones.new.items.items c.new-ways.result.items
    (subst (λ (v : List Row). (x y : Point) → ItemsHold c.push_zones.new.items.items x y ↔ (ItemsHold c.loop-left.kept.items x y ⊎ RowsHold v x y)) is c.in_ok-push_zones.ensures)
    c.new-ways.ensures.items)

pub loop-left-preserved : goal.loop-left-preserved
loop-left-preserved c =
    step c.args.second.now c.args.rows.now c.loop-left.left.now c.loop-left.kept.items c.loop-left.ways.items c.loop-left.count c.args.room c.loop-left.invariant
    c.split_at.result.0.now c.split_at.result.1.now c.stretch_len.result c.split_at.ensures.by_index.0 c.split_at.ensures.front c.split_at.ensures.back c.stretch_len.ensures.apart
    c.in_ok-ways-2.ways.items c.in_ok-ways-2.ensures

pub returns : goal.returns
returns c =
    let none = none_left c.loop-left.left.now c.loop-left-test.ensures in
    let g = subst (λ (v : List Row). IsUnderway c.args.second.now c.args.rows.now v c.loop-left.kept.items c.loop-left.ways.items c.loop-left.count c.args.room) none c.loop-left.invariant in
    let same : (r : Row) → Among c.args.rows.now r ↔ Among c.args.rows.now r = λ r. (λ a. a, λ a. a) in
    let is : c.extend_from_slice.new.self.items ≡ c.loop-left.ways.items ++ c.loop-left.kept.items =
    c.in_ok-extend_from_slice.ensures.items ∙ ap (λ (v : List Item). c.loop-left.ways.items ++ v) c.deref-2.ensures.value in
    gives_alike (ItemsHold (c.loop-left.ways.items ++ c.loop-left.kept.items)) (HasMiddlePoint c.args.rows.now c.args.second.now)
    (items_from c.args.second.now c.args.rows.now c.loop-left.kept.items c.loop-left.ways.items c.loop-left.count c.args.room g c.args.rows.now same)
    (from_items c.args.second.now c.args.rows.now c.loop-left.kept.items c.loop-left.ways.items c.loop-left.count c.args.room g c.args.rows.now same)
    c.args.room c.gathered_of-2.result (subst (λ (v : List Item). Gives c.gathered_of-2.result (ItemsHold v) c.args.room) is c.gathered_of-2.ensures.gives)
