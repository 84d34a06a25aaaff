use Rattle.std.proofs.Common.{◌∙◌, List, sym, subst}
use Rattle.relation_rows.specs.declared.times.OneRow.{OneRow}
use Rattle.relation_rows.specs.Times.{AreTimes, TimesHold}
use Rattle.wide_witness.proofs.reach.Reach.settle.Goals as goal

pub returns-clause-all : goal.returns-clause-all
returns-clause-all c =
    let copied = c.in_ok-from_slice.ensures.items ∙ c.deref.ensures.value in
    let kept = c.in_ok-self.ensures.items ∙ c.rows.ensures.value in
    subst (λ (v : List OneRow). AreTimes (TimesHold c.args.self.now.all.items) v) (sym kept)
    (subst (λ (v : List OneRow). AreTimes (TimesHold v) c.in_ok-times.times) copied c.in_ok-times.ensures)
