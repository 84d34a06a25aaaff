use Rattle.std.proofs.Common.{List, ◌∙◌, subst}
use Rattle.relation_rows.specs.declared.times.OneRow.{OneRow}
use Rattle.condition_eval.specs.Marking.{AreMarks}
use Rattle.condition_eval.specs.Combined.{IsUnmarked}
use Rattle.condition_eval.proofs.Marked.{near_of, near_within, turned_marks}
use Rattle.condition_eval.proofs.marks.Marks.not.Goals as goal

pub of-requires-clause-near : goal.of-requires-clause-near
of-requires-clause-near c =
    near_of c.args.objects.now (IsUnmarked c.args.horizon c.rows.result.now) c.in_ok-rows.rows.items (λ x h. near_within c.args.horizon c.requires.from c.requires.to x h.0)
    (turned_marks c.args.objects.now c.args.horizon c.rows.result.now c.in_ok-all.all.items c.deref.result.now c.in_ok-rows.rows.items c.in_ok-all.ensures c.deref.ensures.value c.in_ok-rows.ensures)

pub returns : goal.returns
returns c =
    let turned = turned_marks c.args.objects.now c.args.horizon c.rows.result.now c.in_ok-all.all.items c.deref.result.now c.in_ok-rows.rows.items c.in_ok-all.ensures c.deref.ensures.value c.in_ok-rows.ensures in
    rw c.of.ensures (subst (λ (v : List OneRow). AreMarks c.args.objects.now (IsUnmarked c.args.horizon v) c.in_ok-rows.rows.items) (c.rows.ensures.value ∙ c.self.view_is) turned)
