use Rattle.std.proofs.Common.{◌↔◌, ◌⊎◌, subst, List}
use Rattle.relation_rows.specs.declared.rows.Row.{Row}
use Rattle.relation_rows.specs.Rows.{RowsHold}
use Rattle.wide_witness.specs.Along.{AlongRows, LeadOneOn}
use Rattle.wide_witness.proofs.FewRows.{along_fits}
use Rattle.wide_witness.proofs.StandingFree.{all_free}
use Rattle.wide_witness.proofs.StepRows.{rows_made}
use Rattle.wide_witness.proofs.Stretches.{from_parts, to_parts}
use Rattle.wide_witness.proofs.along.along_time.Goals as goal

pub returns-in-Ok-clause-made : goal.returns-in-Ok-clause-made
returns-in-Ok-clause-made c = λ x y.
    let one = c.args.one.now in
    let steps = c.args.steps.now in
    let formed = c.rows-step_rows.ensures.relation.formed in
    let on = subst LeadOneOn c.rows-step_rows.ensures.value (c.lead_one_on.ensures c.if-not-lead_one_on.false) in
    let free = all_free steps c.rows-step_rows.ensures.relation on in
    let made = rows_made c.rows-one_rows.result.now c.rows-step_rows.result.now c.in-Ok.all c.in_ok-items.items.items _ _ c.args.most c.in_ok-items.ensures.items c.in_ok-push_rows.ensures c.in_ok-push_along.ensures c.in-Ok.ensures.0 x y in
    let parts = subst (λ (v : List Row). RowsHold c.in-Ok.all x y ↔ (RowsHold one x y ⊎ AlongRows v c.args.most x y)) c.rows-step_rows.ensures.value
    (subst (λ (v : List Row). RowsHold c.in-Ok.all x y ↔ (RowsHold v x y ⊎ AlongRows c.rows-step_rows.result.now c.args.most x y)) c.rows-one_rows.ensures.value made) in (
      λ h. from_parts steps formed on free one c.requires.same c.requires.inside c.args.most x y (parts.0 h),
      λ h. parts.1 (to_parts steps formed on free one c.requires.same c.requires.inside c.args.most x y h),
    )

pub returns-in-Ok-clause-fits : goal.returns-in-Ok-clause-fits
returns-in-Ok-clause-fits c = λ n.
    let on = subst LeadOneOn c.rows-step_rows.ensures.value (c.lead_one_on.ensures c.if-not-lead_one_on.false) in
    let free = all_free c.args.steps.now c.rows-step_rows.ensures.relation on in
    along_fits c.args.one.now c.args.steps.now c.rows-one_rows.ensures.relation.formed c.rows-step_rows.ensures.relation.formed on free c.requires.same c.requires.inside n c.args.max_rows
    (c.are_few.ensures c.if-not-are_few.false)
