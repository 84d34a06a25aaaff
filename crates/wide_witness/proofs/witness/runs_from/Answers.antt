use Rattle.std.proofs.Common.{◌≡◌, ◌∙◌, ℕ, List, refl, sym, ap, subst, arith}
use Rattle.relation_rows.specs.Rows.{RowsHold}
use Rattle.relation_rows.specs.declared.times.OneRow.{OneRow}
use Rattle.wide_witness.specs.declared.reach.Reach.{Reach}
use Rattle.wide_witness.specs.Steps.{AreReached, AreSpans, point}
use Rattle.wide_witness.proofs.Walking.{start_reached, seen_from, settled_reached}
use Rattle.wide_witness.proofs.witness.runs_from.Goals as goal
use Rattle.wide_witness.proofs.witness.runs_from.Goals.{then-is_unsettled+in_ok-settle, else-is_unsettled+else-step-eq-TRIED}

pub loop-step-init : goal.loop-step-init
loop-step-init c =
    let start = c.args.start.now in
    start_reached (RowsHold c.args.x.now) (point start.object.0 start.span.from) start refl refl (c.requires.start.2).one
    _
    _
    (c.new-reach.ensures.all ∙ c.in_ok-all.ensures.items)
    (c.new-reach.ensures.newest ∙ c.in_ok-newest.ensures.items)

pub step-requires-clause-newest : goal.step-requires-clause-newest
step-requires-clause-newest c =
    elim c.if-is_unsettled.branch [
      | then-is_unsettled+in_ok-settle w ↦
          let same = ap (λ v. v.items) w.in_ok-settle.ensures.newest in
          subst (λ (v : Reach). AreSpans v.newest.items) (sym w.reach-is) (subst (λ (v : List OneRow). AreSpans v) (sym same) c.loop-step.invariant.newest_spans)
      | else-is_unsettled+else-step-eq-TRIED w ↦ subst (λ (v : Reach). AreSpans v.newest.items) (sym w.reach-is) c.loop-step.invariant.newest_spans
    ]

pub loop-step-preserved : goal.loop-step-preserved
loop-step-preserved c =
    let from = point c.args.start.now.object.0 c.args.start.now.span.from in
    let step = c.loop-step.step in
    c.in_ok-step.ensures from step
    (elim c.if-is_unsettled.branch [
      | then-is_unsettled+in_ok-settle w ↦
          subst (λ (v : Reach). AreReached (RowsHold c.args.x.now) from step v.all.items v.newest.items) (sym w.reach-is)
          (settled_reached (RowsHold c.args.x.now) from step _ _ _ _ w.in_ok-settle.ensures.all (ap (λ v. v.items) w.in_ok-settle.ensures.newest) c.loop-step.invariant)
      | else-is_unsettled+else-step-eq-TRIED w ↦
          subst (λ (v : Reach). AreReached (RowsHold c.args.x.now) from step v.all.items v.newest.items) (sym w.reach-is) c.loop-step.invariant
    ])

pub returns : goal.returns
returns c =
    let from = point c.args.start.now.object.0 c.args.start.now.span.from in
    let all = c.loop-step.reach.all.items in
    let newest = c.loop-step.reach.newest.items in
    let runs = c.settle-2.new.self.all.items in
    let last : c.loop-step.step ≡ c.args.steps = omega arith in
    let row = c.requires.start in
    seen_from c.args.x.now row.0 row.1 (c.requires.rows row.0 row.1) c.args.start.now row.2 c.args.steps all newest runs
    (subst (λ (v : ℕ). AreReached (RowsHold c.args.x.now) from v all newest) last c.loop-step.invariant)
    c.in_ok-settle-2.ensures.all
    _
    (omega (arith, c.len.ensures))
