use Rattle.std.proofs.Common.{List, sym, ◌∙◌, subst}
use Rattle.std.proofs.lemmas.Slice.Eq.{slice_eq-Decides}
use Rattle.relation_rows.specs.declared.rows.Row.{Row}
use Rattle.relation_rows.specs.Rows.{NormalRows}
use Rattle.relation_rows.specs.Relations.{HasMiddlePoint}
use Rattle.relation_rows.proofs.Equal.{row_decides}
use Rattle.relation_rows.proofs.HalfRows.{first_in, given, told_by}
use Rattle.relation_rows.proofs.steps.step_from.Goals as goal

pub step_after-requires-clause-first : goal.step_after-requires-clause-first
step_after-requires-clause-first c = c.requires.rows _ (first_in c.args.rows.now c.in-Some-Some.first.now c.in-Some-Some.ensures.value)

pub step_after-requires-clause-second : goal.step_after-requires-clause-second
step_after-requires-clause-second c = c.requires.half _ (first_in c.args.half.now c.in-Some-Some.second.now c.in-Some-Some.ensures'.value)

pub returns-then-eq : goal.returns-then-eq
returns-then-eq c =
    let led = c.in-Some-2.led in
    let seen = given (HasMiddlePoint c.args.rows.now c.deref.result.now) _ c.onward.result c.in_ok-led.field-0 led c.onward.ensures c.in_ok-led.ensures c.in-Some-2.is in
    let n = subst (λ (v : List Row). NormalRows (HasMiddlePoint c.args.rows.now v) led) (c.deref.ensures.value ∙ c.step.view_is) seen in
    let same = (slice_eq-Decides row_decides c.deref-2.result.now c.args.half.now c.eq.result c.eq.ensures).0 c.if-eq.true in
    told_by (HasMiddlePoint c.args.rows.now c.in_ok-step.step) led c.args.half.now n (sym (c.deref-2.ensures.value ∙ c.led.view_is) ∙ same)
