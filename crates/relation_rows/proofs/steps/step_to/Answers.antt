use Rattle.std.proofs.Common.{List, sym, ◌∙◌, subst}
use Rattle.std.proofs.lemmas.Slice.Eq.{slice_eq-Decides}
use Rattle.relation_rows.specs.declared.rows.Row.{Row}
use Rattle.relation_rows.specs.Rows.{NormalRows}
use Rattle.relation_rows.specs.Relations.{HasMiddlePoint}
use Rattle.relation_rows.proofs.Equal.{row_decides}
use Rattle.relation_rows.proofs.HalfRows.{first_in, given, told_by}
use Rattle.relation_rows.proofs.steps.step_to.Goals as goal

pub step_before-requires-clause-first : goal.step_before-requires-clause-first
step_before-requires-clause-first c = c.requires.rows _ (first_in c.args.rows.now c.in-Some-Some.first.now c.in-Some-Some.ensures.value)

pub step_before-requires-clause-second : goal.step_before-requires-clause-second
step_before-requires-clause-second c = c.requires.half _ (first_in c.args.half.now c.in-Some-Some.second.now c.in-Some-Some.ensures'.value)

pub returns-then-eq : goal.returns-then-eq
returns-then-eq c =
    let moved = c.in-Some-2.moved in
    let seen = given (HasMiddlePoint c.deref.result.now c.args.rows.now) _ c.onward.result c.in_ok-moved.field-0 moved c.onward.ensures c.in_ok-moved.ensures c.in-Some-2.is in
    let n = subst (λ (v : List Row). NormalRows (HasMiddlePoint v c.args.rows.now) moved) (c.deref.ensures.value ∙ c.step.view_is) seen in
    let same = (slice_eq-Decides row_decides c.deref-2.result.now c.args.half.now c.eq.result c.eq.ensures).0 c.if-eq.true in
    told_by (HasMiddlePoint c.in_ok-step.step c.args.rows.now) moved c.args.half.now n (sym (c.deref-2.ensures.value ∙ c.moved.view_is) ∙ same)
