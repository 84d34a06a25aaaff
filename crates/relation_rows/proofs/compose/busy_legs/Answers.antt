use Rattle.std.proofs.Common.{◌↔◌, List, subst}
use Rattle.itpg_base.specs.Points.{Point}
use Rattle.itpg_base.specs.Lists.{Among, Ordered}
use Rattle.relation_rows.specs.declared.rows.Row.{Row}
use Rattle.relation_rows.specs.Rows.{RowBefore, RowsHold}
use Rattle.relation_rows.specs.Timetables.{LegsHold}
use Rattle.relation_rows.specs.Ways.{HasBusy}
use Rattle.relation_rows.proofs.Sources.{composed_of, none_composed}
use Rattle.relation_rows.proofs.compose.busy_legs.Goals as goal

pub timetable-requires : goal.timetable-requires
timetable-requires c =
    let there = c.in_ok-rows.ensures.there in
    λ r i. c.requires.second r (subst (λ (v : List Row). Among v r) c.rows-all.ensures.rows (there r (subst (λ (v : List Row). Among v r) c.deref.ensures.value i)))

pub returns : goal.returns
returns c =
    let there = c.in_ok-rows.ensures.there in
    let busy = c.in_ok-rows.ensures.busy in
    let holds : (x y : Point) → LegsHold c.in_ok-legs.legs.items x y ↔ RowsHold c.in_ok-rows.rows.items x y =
    λ x y. subst (λ (v : List Row). LegsHold c.in_ok-legs.legs.items x y ↔ RowsHold v x y) c.deref.ensures.value (c.in_ok-legs.ensures.holds x y) in
    composed_of c.args.second.now c.in_ok-rows.rows.items c.in_ok-legs.legs.items (subst (λ (v : List Row). Ordered RowBefore v) c.rows-all.ensures.rows c.rows-all.ensures.order) c.requires.second
    (λ r i. subst (λ (v : List Row). Among v r) c.rows-all.ensures.rows (there r i))
    (subst (λ (v : List Row). HasBusy v c.in_ok-rows.rows.items) c.rows-all.ensures.rows busy) c.in_ok-legs.ensures.table holds

pub returns-then-not-is_timetable_due : goal.returns-then-not-is_timetable_due
returns-then-not-is_timetable_due c =
    none_composed c.args.second.now c.new.result.items c.new.ensures.items (subst (λ (v : List Row). Ordered RowBefore v) c.rows-all.ensures.rows c.rows-all.ensures.order) c.requires.second
