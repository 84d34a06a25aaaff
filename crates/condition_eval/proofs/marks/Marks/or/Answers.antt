use Rattle.std.proofs.Common.{List, ⊎_elim, sym, ◌∙◌, subst}
use Rattle.itpg_base.specs.Points.{Point}
use Rattle.relation_rows.specs.declared.times.OneRow.{OneRow}
use Rattle.relation_rows.specs.Resting.{AreNearTimes}
use Rattle.condition_eval.specs.Marking.{ArePoints}
use Rattle.condition_eval.specs.Combined.{EitherMarks}
use Rattle.condition_eval.proofs.Marked.{near_marks, mark_near}
use Rattle.condition_eval.proofs.marks.Marks.or.Goals as goal

pub of-requires-clause-near : goal.of-requires-clause-near
of-requires-clause-near c =
    let own = subst AreNearTimes (sym c.rows.ensures.value) c.self.invariant in
    let other = subst AreNearTimes (sym c.rows-2.ensures.value) c.other.invariant in
    near_marks (EitherMarks c.rows.result.now c.rows-2.result.now) c.in_ok-rows.rows.items
    (λ (x : Point) h. ⊎_elim (λ k. mark_near c.rows.result.now own x k) (λ k. mark_near c.rows-2.result.now other x k) h) c.in_ok-rows.ensures

pub returns : goal.returns
returns c =
    let other = subst (λ (v : List OneRow). ArePoints (EitherMarks c.rows.result.now v) c.in_ok-rows.rows.items) (c.rows-2.ensures.value ∙ c.other.view_is) c.in_ok-rows.ensures in
    rw c.of.ensures (subst (λ (v : List OneRow). ArePoints (EitherMarks v c.args.other.now) c.in_ok-rows.rows.items) (c.rows.ensures.value ∙ c.self.view_is) other)
