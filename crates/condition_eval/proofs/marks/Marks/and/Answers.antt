use Rattle.std.proofs.Common.{List, sym, ◌∙◌, subst}
use Rattle.relation_rows.specs.declared.times.OneRow.{OneRow}
use Rattle.relation_rows.specs.Resting.{AreNearTimes}
use Rattle.condition_eval.specs.Marking.{ArePoints}
use Rattle.condition_eval.specs.Combined.{BothMark}
use Rattle.condition_eval.proofs.Marked.{near_marks, mark_near}
use Rattle.condition_eval.proofs.marks.Marks.and.Goals as goal

pub of-requires-clause-near : goal.of-requires-clause-near
of-requires-clause-near c =
    let own = subst AreNearTimes (sym c.rows.ensures.value) c.self.invariant in
    near_marks (BothMark c.rows.result.now c.rows-2.result.now) c.in_ok-rows.rows.items (λ x h. mark_near c.rows.result.now own x h.0) c.in_ok-rows.ensures

pub returns : goal.returns
returns c =
    let other = subst (λ (v : List OneRow). ArePoints (BothMark c.rows.result.now v) c.in_ok-rows.rows.items) (c.rows-2.ensures.value ∙ c.other.view_is) c.in_ok-rows.ensures in
    rw c.of.ensures (subst (λ (v : List OneRow). ArePoints (BothMark v c.args.other.now) c.in_ok-rows.rows.items) (c.rows.ensures.value ∙ c.self.view_is) other)
