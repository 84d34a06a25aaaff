use Rattle.std.proofs.Common.{◌≡◌, ◌↔◌, List, ◌++◌, ◌∙◌, ap, sym, subst}
use Rattle.itpg_base.specs.Lists.{Ordered}
use Rattle.relation_rows.specs.declared.rows.Row.{Row}
use Rattle.relation_rows.specs.declared.timetable.Leg.{Leg}
use Rattle.relation_rows.specs.Timetables.{DepartsUpTo, IsTimetable, LegsHold}
use Rattle.relation_rows.specs.Rows.{RowsHold}
use Rattle.relation_rows.proofs.Legs.{legs_ordered, legs_hold, table_of}
use Rattle.relation_rows.proofs.timetable.timetable.Goals as goal

pub returns : goal.returns
returns c =
    let permutation = c.in_ok-sorted.ensures.same in
    let has = c.in_ok-push_legs.ensures in
    let all : c.push_legs.new.legs.items ≡ has.0 = has.1 ∙ ap (λ (v : List Leg). v ++ has.0) c.in_ok-legs.ensures.items in
    let table = table_of c.args.rows.now c.in_ok-sorted.sorted.items permutation has.0 (has.2 ∙ c.deref.ensures.value) (legs_ordered has.0 (subst (λ (v : List Row). Ordered DepartsUpTo v) (sym (has.2 ∙ c.deref.ensures.value)) c.in_ok-sorted.ensures.order)) has.3 c.requires in
    let holds = legs_hold c.args.rows.now c.in_ok-sorted.sorted.items permutation has.0 (has.2 ∙ c.deref.ensures.value) in
    record {
      table = subst IsTimetable (sym all) table;
      holds = λ x y. subst (λ (v : List Leg). LegsHold v x y ↔ RowsHold c.args.rows.now x y) (sym all) (holds x y);
    }
