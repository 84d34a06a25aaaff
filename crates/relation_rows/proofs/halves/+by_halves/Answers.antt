use Rattle.std.proofs.Common.{rules, ◌≡◌, ◌↔◌, ◌∙◌, List, Option, Ok, subst}
use Rattle.std.specs.Prelude.{IfSome}
use Rattle.itpg_base.specs.Points.{Point}
use Rattle.relation_rows.specs.declared.rows.Row.{Row}
use Rattle.relation_rows.specs.Rows.{RowsHold, NormalRows}
use Rattle.relation_rows.specs.Answers.{Gives}
use Rattle.relation_rows.specs.Relations.{EitherHolds, HasMiddlePoint}
use Rattle.relation_rows.proofs.HalfRows.{gave, so_of_found, in_first, in_half, in_last, first_ordered, all_by_halves}
use Rattle.relation_rows.proofs.LaterHalves.{last_ordered, all_by_later_halves}
use Rattle.relation_rows.proofs.halves.+by_halves.Goals as goal

pub step_to-requires-clause-order : goal.step_to-requires-clause-order
step_to-requires-clause-order t c = first_ordered c.args.rows.now c.split_at.result.0.now c.split_at.result.1.now c.split_at-then-is_halved.result.0.now c.split_at-then-is_halved.result.1.now c.split_at.ensures.by_index.0 c.split_at-then-is_halved.ensures.by_index.0 c.requires.order

pub step_to-requires-clause-rows : goal.step_to-requires-clause-rows
step_to-requires-clause-rows t c = λ r a. c.requires.rows r (in_first c.args.rows.now c.split_at.result.0.now c.split_at.result.1.now c.split_at-then-is_halved.result.0.now c.split_at-then-is_halved.result.1.now c.split_at.ensures.by_index.0 c.split_at-then-is_halved.ensures.by_index.0 r a)

pub step_to-requires-clause-half : goal.step_to-requires-clause-half
step_to-requires-clause-half t c = λ r a. c.requires.rows r (in_half c.args.rows.now c.split_at.result.0.now c.split_at.result.1.now c.split_at-then-is_halved.result.0.now c.split_at-then-is_halved.result.1.now c.split_at.ensures.by_index.0 c.split_at-then-is_halved.ensures.by_index.0 r a)

pub by_halves-requires : goal.by_halves-requires
by_halves-requires t c = (
  search rules,
  (
    first_ordered c.args.rows.now c.split_at.result.0.now c.split_at.result.1.now c.split_at-then-is_halved.result.0.now c.split_at-then-is_halved.result.1.now c.split_at.ensures.by_index.0 c.split_at-then-is_halved.ensures.by_index.0 c.requires.order,
    (λ r a. c.requires.rows r (in_first c.args.rows.now c.split_at.result.0.now c.split_at.result.1.now c.split_at-then-is_halved.result.0.now c.split_at-then-is_halved.result.1.now c.split_at.ensures.by_index.0 c.split_at-then-is_halved.ensures.by_index.0 r a), (c.requires.others_order, c.requires.others)),
  ),
)

pub by_halves-requires-then-is_halved : goal.by_halves-requires-then-is_halved
by_halves-requires-then-is_halved t c = (
  search rules,
  (
    last_ordered c.args.rows.now c.split_at.result.0.now c.split_at.result.1.now c.split_at-then-is_halved.result.0.now c.split_at-then-is_halved.result.1.now c.split_at.ensures.by_index.0 c.split_at-then-is_halved.ensures.by_index.0 c.requires.order,
    (λ r a. c.requires.rows r (in_last c.args.rows.now c.split_at.result.0.now c.split_at.result.1.now c.split_at-then-is_halved.result.0.now c.split_at-then-is_halved.result.1.now c.split_at.ensures.by_index.0 c.split_at-then-is_halved.ensures.by_index.0 r a), (c.requires.others_order, c.requires.others)),
  ),
)

pub returns-then-is_halved : goal.returns-then-is_halved
returns-then-is_halved t c =
    let others = c.args.others.now in
    let first = c.split_at-then-is_halved.result.0.now in
    let half = c.split_at-then-is_halved.result.1.now in
    let last = c.split_at.result.1.now in
    let done = c.in-Some-2.done in
    let step = c.in-Some.step in
    let behind = subst (λ (v : Option (List Row)). IfSome v (λ step. (x y : Point) → RowsHold half x y ↔ HasMiddlePoint step first x y)) c.in-Some.is c.in_ok-step.ensures in
    let own = subst (λ (v : Option (List Row)). IfSome v (λ all. NormalRows (HasMiddlePoint first others) all)) c.in-Some-2.is c.in_ok-done.ensures in
    let both = subst (λ (v : Option (List Row)). IfSome v (λ all. (rows : List Row) × (c.onward-moved.result ≡ Ok rows) × NormalRows (EitherHolds done rows) all)) c.in-Some-3.is c.in_ok-both.ensures in
    let more = subst (λ (v : Option (List Row)). IfSome v (λ all. NormalRows (HasMiddlePoint last others) all)) c.in-Some-4.is c.in_ok-more.ensures in
    let moved = gave (HasMiddlePoint step done) _ c.onward-moved.result both.0
    (subst (λ (v : List Row). Gives c.onward-moved.result (HasMiddlePoint v done) 1048576) (c.deref.ensures.value ∙ c.step.view_is)
    (subst (λ (v : List Row). Gives c.onward-moved.result (HasMiddlePoint c.deref.result.now v) 1048576) (c.deref-then-is_halved.ensures.value ∙ c.done.view_is) c.onward-moved.ensures)) both.1 in
    so_of_found _ (λ all. NormalRows (HasMiddlePoint c.args.rows.now others) all) c.both_of.result
    (λ all e. all_by_halves c.args.rows.now c.split_at.result.0.now c.split_at.result.1.now c.split_at-then-is_halved.result.0.now c.split_at-then-is_halved.result.1.now c.split_at.ensures.by_index.0 c.split_at-then-is_halved.ensures.by_index.0
    others step done both.0 c.in-Some-3.both c.in-Some-4.more all behind own moved both.2 more e)
    c.both_of.ensures

pub step_from-requires-clause-rows : goal.step_from-requires-clause-rows
step_from-requires-clause-rows t c = λ r a. c.requires.others r (in_first c.args.others.now c.split_at-then-is_halved-2.result.0.now c.split_at-then-is_halved-2.result.1.now c.split_at-then-is_halved-2-2.result.0.now c.split_at-then-is_halved-2-2.result.1.now c.split_at-then-is_halved-2.ensures.by_index.0 c.split_at-then-is_halved-2-2.ensures.by_index.0 r a)

pub step_from-requires-clause-half : goal.step_from-requires-clause-half
step_from-requires-clause-half t c = λ r a. c.requires.others r (in_half c.args.others.now c.split_at-then-is_halved-2.result.0.now c.split_at-then-is_halved-2.result.1.now c.split_at-then-is_halved-2-2.result.0.now c.split_at-then-is_halved-2-2.result.1.now c.split_at-then-is_halved-2.ensures.by_index.0 c.split_at-then-is_halved-2-2.ensures.by_index.0 r a)

pub by_halves-requires-then-is_halved-2 : goal.by_halves-requires-then-is_halved-2
by_halves-requires-then-is_halved-2 t c = (
  search rules,
  (
    c.requires.order,
    (
      c.requires.rows,
      (
        first_ordered c.args.others.now c.split_at-then-is_halved-2.result.0.now c.split_at-then-is_halved-2.result.1.now c.split_at-then-is_halved-2-2.result.0.now c.split_at-then-is_halved-2-2.result.1.now c.split_at-then-is_halved-2.ensures.by_index.0 c.split_at-then-is_halved-2-2.ensures.by_index.0 c.requires.others_order,
        λ r a. c.requires.others r (in_first c.args.others.now c.split_at-then-is_halved-2.result.0.now c.split_at-then-is_halved-2.result.1.now c.split_at-then-is_halved-2-2.result.0.now c.split_at-then-is_halved-2-2.result.1.now c.split_at-then-is_halved-2.ensures.by_index.0 c.split_at-then-is_halved-2-2.ensures.by_index.0 r a),
      ),
    ),
  ),
)

pub by_halves-requires-then-is_halved-2-2 : goal.by_halves-requires-then-is_halved-2-2
by_halves-requires-then-is_halved-2-2 t c = (
  search rules,
  (
    c.requires.order,
    (
      c.requires.rows,
      (
        last_ordered c.args.others.now c.split_at-then-is_halved-2.result.0.now c.split_at-then-is_halved-2.result.1.now c.split_at-then-is_halved-2-2.result.0.now c.split_at-then-is_halved-2-2.result.1.now c.split_at-then-is_halved-2.ensures.by_index.0 c.split_at-then-is_halved-2-2.ensures.by_index.0 c.requires.others_order,
        λ r a. c.requires.others r (in_last c.args.others.now c.split_at-then-is_halved-2.result.0.now c.split_at-then-is_halved-2.result.1.now c.split_at-then-is_halved-2-2.result.0.now c.split_at-then-is_halved-2-2.result.1.now c.split_at-then-is_halved-2.ensures.by_index.0 c.split_at-then-is_halved-2-2.ensures.by_index.0 r a),
      ),
    ),
  ),
)

pub returns-then-is_halved-2 : goal.returns-then-is_halved-2
returns-then-is_halved-2 t c =
    let rows = c.args.rows.now in
    let first = c.split_at-then-is_halved-2-2.result.0.now in
    let half = c.split_at-then-is_halved-2-2.result.1.now in
    let last = c.split_at-then-is_halved-2.result.1.now in
    let done = c.in-Some-6.done in
    let step = c.in-Some-5.step in
    let behind = subst (λ (v : Option (List Row)). IfSome v (λ step. (x y : Point) → RowsHold half x y ↔ HasMiddlePoint first step x y)) c.in-Some-5.is c.in_ok-step-2.ensures in
    let own = subst (λ (v : Option (List Row)). IfSome v (λ all. NormalRows (HasMiddlePoint rows first) all)) c.in-Some-6.is c.in_ok-done-2.ensures in
    let both = subst (λ (v : Option (List Row)). IfSome v (λ all. (rows : List Row) × (c.onward-moved-then-is_halved-2.result ≡ Ok rows) × NormalRows (EitherHolds done rows) all)) c.in-Some-7.is c.in_ok-both-2.ensures in
    let more = subst (λ (v : Option (List Row)). IfSome v (λ all. NormalRows (HasMiddlePoint rows last) all)) c.in-Some-8.is c.in_ok-more-2.ensures in
    let moved = gave (HasMiddlePoint done step) _ c.onward-moved-then-is_halved-2.result both.0
    (subst (λ (v : List Row). Gives c.onward-moved-then-is_halved-2.result (HasMiddlePoint done v) 1048576) (c.deref-then-is_halved-2-2.ensures.value ∙ c.step-then-is_halved-2.view_is)
    (subst (λ (v : List Row). Gives c.onward-moved-then-is_halved-2.result (HasMiddlePoint v c.deref-then-is_halved-2-2.result.now) 1048576) (c.deref-then-is_halved-2.ensures.value ∙ c.done-then-is_halved-2.view_is) c.onward-moved-then-is_halved-2.ensures)) both.1 in
    so_of_found _ (λ all. NormalRows (HasMiddlePoint rows c.args.others.now) all) c.both_of-then-is_halved-2.result
    (λ all e. all_by_later_halves c.args.others.now c.split_at-then-is_halved-2.result.0.now c.split_at-then-is_halved-2.result.1.now c.split_at-then-is_halved-2-2.result.0.now c.split_at-then-is_halved-2-2.result.1.now c.split_at-then-is_halved-2.ensures.by_index.0 c.split_at-then-is_halved-2-2.ensures.by_index.0
    rows step done both.0 c.in-Some-7.both c.in-Some-8.more all behind own moved both.2 more e)
    c.both_of-then-is_halved-2.ensures
