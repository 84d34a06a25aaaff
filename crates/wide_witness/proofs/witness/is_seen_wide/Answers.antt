use Rattle.std.proofs.Common.{◌≡◌, ◌⊎◌, inl, inr, ◌∙◌, ℕ, ◌+◌, ◌<◌, ◌≤◌, ap, sym, List, subst, arith}
use Rattle.std.specs.Iterator.Adapters.{step_by_source}
use Rattle.std.specs.Slice.Iter.{iter_rest}
use Rattle.itpg_base.specs.Lists.{Among, Ordered}
use Rattle.relation_rows.specs.declared.rows.Row.{Row}
use Rattle.relation_rows.specs.Rows.{RowBefore, RowsHold}
use Rattle.wide_witness.proofs.Seeing.{HaveSeen, at_row, many_seen, none_seen, other_point}
use Rattle.wide_witness.proofs.Stepping.{item_left, ordered_left, rest_left, source_up}
use Rattle.wide_witness.proofs.witness.is_seen_wide.Goals as goal
use Rattle.wide_witness.proofs.witness.is_seen_wide.Goals.{then-object-row, else-object-row}

pub loop-row-init : goal.loop-row-init
loop-row-init c =
    let all : iter_rest (step_by_source c.into_iter-row-iterator.result) ≡ c.args.x.now =
    ap (λ v. iter_rest (step_by_source v)) c.into_iter-row-iterator.ensures.into_iter_gives
    ∙ ap (λ v. iter_rest v) c.step_by-row-items.ensures.source ∙ c.iter.ensures.rest ∙ c.rows-rows.ensures.value in (
      λ r h. (subst (λ (v : List Row). Among v r) all h, omega arith),
      subst (λ (v : List Row). Ordered RowBefore v) (sym all) c.rows-rows.ensures.relation.normal.order,
      none_seen (RowsHold c.args.x.now) c.args.steps,
    )

pub runs_from_row-requires-clause-row : goal.runs_from_row-requires-clause-row
runs_from_row-requires-clause-row c =
    let passed = c.in-Some.ensures.steps.2 in
    let then = passed.3 in
    (c.loop-row.invariant.0 c.in-Some.row.now (item_left _ then.0 passed.1 then.1 c.in-Some.row.now _ then.2)).0

pub returns-then-saturating_add-limit : goal.returns-then-saturating_add-limit
returns-then-saturating_add-limit c =
    let passed = c.in-Some.ensures.steps.2 in
    let then = passed.3 in
    let row = c.in-Some.row.now in
    let source = row.source.0 in
    let up = (c.loop-row.invariant.0 row (item_left _ then.0 passed.1 then.1 row _ then.2)).1 in
    let o = c.loop-row.object.0 in
    let object = c.if-object-row.object.0 in
    let sum = c.if-object-row.before in
    let more = c.if-object-row.most in
    let turn : ((o < source) × (sum ≤ c.loop-row.before + c.loop-row.most) × (more ≡ 0) × (object ≡ source)) ⊎ ((source ≤ o) × (sum ≡ c.loop-row.before) × (more ≡ c.loop-row.most) × (object ≡ o)) =
    elim c.if-object-row.branch [
      | then-object-row w ↦ inl (w.if-object-row.true, omega (arith, w.saturating_add-before.ensures, w.before-is), w.most-is, ap (λ v. v.0) w.object-is)
      | else-object-row w ↦ inr (w.if-object-row.false, w.before-is, w.most-is, ap (λ v. v.0) w.object-is)
    ] in
    let at = at_row (RowsHold c.args.x.now) c.args.steps o c.loop-row.before c.loop-row.most source object sum more up turn c.loop-row.invariant.2 in
    let seen = other_point (RowsHold c.args.x.now) c.args.steps source sum more c.in_ok-runs_from_row.field-0 c.max-most.result c.max-most.ensures c.in_ok-runs_from_row.ensures at.0 in
    λ _. many_seen (RowsHold c.args.x.now) c.args.steps source sum c.max-most.result c.saturating_add.result c.args.limit (omega (arith, c.saturating_add.ensures)) c.if-saturating_add-limit.true seen

pub loop-row-preserved : goal.loop-row-preserved
loop-row-preserved c =
    let passed = c.in-Some.ensures.steps.2 in
    let then = passed.3 in
    let row = c.in-Some.row.now in
    let source = row.source.0 in
    let up = (c.loop-row.invariant.0 row (item_left _ then.0 passed.1 then.1 row _ then.2)).1 in
    let o = c.loop-row.object.0 in
    let object = c.if-object-row.object.0 in
    let sum = c.if-object-row.before in
    let more = c.if-object-row.most in
    let turn : ((o < source) × (sum ≤ c.loop-row.before + c.loop-row.most) × (more ≡ 0) × (object ≡ source)) ⊎ ((source ≤ o) × (sum ≡ c.loop-row.before) × (more ≡ c.loop-row.most) × (object ≡ o)) =
    elim c.if-object-row.branch [
      | then-object-row w ↦ inl (w.if-object-row.true, omega (arith, w.saturating_add-before.ensures, w.before-is), w.most-is, ap (λ v. v.0) w.object-is)
      | else-object-row w ↦ inr (w.if-object-row.false, w.before-is, w.most-is, ap (λ v. v.0) w.object-is)
    ] in
    let at = at_row (RowsHold c.args.x.now) c.args.steps o c.loop-row.before c.loop-row.most source object sum more up turn c.loop-row.invariant.2 in
    let seen = other_point (RowsHold c.args.x.now) c.args.steps source sum more c.in_ok-runs_from_row.field-0 c.max-most.result c.max-most.ensures c.in_ok-runs_from_row.ensures at.0 in
    let behind = subst (λ (v : List Row). Ordered RowBefore v) then.2 (ordered_left RowBefore _ then.0 passed.1 then.1 c.loop-row.invariant.1) in (
      λ r h. ((c.loop-row.invariant.0 r (rest_left _ then.0 passed.1 then.1 row _ then.2 r h)).0, (let later = source_up row r (behind.0 r h) in omega (arith, later, at.1))),
      behind.1,
      subst (λ (v : ℕ). HaveSeen (RowsHold c.args.x.now) c.args.steps v sum c.max-most.result) (sym at.1) seen,
    )
