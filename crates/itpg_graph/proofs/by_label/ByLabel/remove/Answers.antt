use Rattle.std.proofs.Common.{◌≡◌, ◌≤◌, Some, take, sym, subst, ◌∙◌}
use Rattle.std.specs.Prelude.{slice_get, Contains}
use Rattle.std.proofs.lemmas.List.{take_all}
use Rattle.itpg_base.specs.Words.{Word}
use Rattle.itpg_graph.proofs.LabelLists.{IsRemoved, one_removed, front_more, not_in_front}
use Rattle.itpg_graph.proofs.by_label.ByLabel.remove.Goals as goal

pub loop-place-preserved : goal.loop-place-preserved
loop-place-preserved c =
    let labels = c.args.labels.now in
    let i = c.loop-place.place in
    let x : Word = c.unwrap.result in
    let at : slice_get labels i ≡ Some x = sym c.get.ensures ∙ c.unwrap.ensures in
    subst (λ front. IsRemoved c.args.self.now c.remove_with.new.self c.args.number.0 front) (sym (front_more labels i x at))
    (one_removed c.args.self.now c.loop-place.self c.remove_with.new.self c.args.number.0 (take i labels) x c.loop-place.invariant (not_in_front labels c.len-place-end.ensures.set.rising i x at) c.remove_with.ensures.own c.remove_with.ensures.others)

pub returns-clause-own : goal.returns-clause-own
returns-clause-own c = λ label has. c.loop-place.invariant.own label (subst (λ labels. Contains labels label) (sym (take_all c.loop-place.place c.args.labels.now (subst (λ n. n ≤ c.loop-place.place) c.len-place-end.ensures.count c.loop-place-test.false))) has)
