use Rattle.std.proofs.Common.{◌≡◌, ◌≤◌, Some, take, sym, subst, ◌∙◌}
use Rattle.std.specs.Prelude.{slice_get, Contains}
use Rattle.std.proofs.lemmas.List.{take_all}
use Rattle.itpg_base.specs.Words.{Word}
use Rattle.itpg_graph.proofs.LabelLists.{IsPushed, one_pushed, front_more, not_in_front, has_at, room_still}
use Rattle.itpg_graph.proofs.by_label.ByLabel.push.Goals as goal

pub push_with-requires : goal.push_with-requires
push_with-requires c =
    let labels = c.args.labels.now in
    let i = c.loop-place.place in
    let x : Word = c.unwrap.result in
    let at : slice_get labels i ≡ Some x = sym c.get.ensures ∙ c.unwrap.ensures in
    room_still c.args.self.now c.loop-place.self x (c.loop-place.invariant.others x (not_in_front labels c.len-place-end.ensures.set.rising i x at)) (c.requires x (has_at labels i x at))

pub loop-place-preserved : goal.loop-place-preserved
loop-place-preserved c =
    let labels = c.args.labels.now in
    let i = c.loop-place.place in
    let x : Word = c.unwrap.result in
    let at : slice_get labels i ≡ Some x = sym c.get.ensures ∙ c.unwrap.ensures in
    subst (λ front. IsPushed c.args.self.now c.push_with.new.self c.args.number front) (sym (front_more labels i x at))
    (one_pushed c.args.self.now c.loop-place.self c.push_with.new.self c.args.number (take i labels) x c.loop-place.invariant (not_in_front labels c.len-place-end.ensures.set.rising i x at) c.push_with.ensures.own c.push_with.ensures.others)

pub returns-clause-own : goal.returns-clause-own
returns-clause-own c = λ label has. c.loop-place.invariant.own label (subst (λ labels. Contains labels label) (sym (take_all c.loop-place.place c.args.labels.now (subst (λ n. n ≤ c.loop-place.place) c.len-place-end.ensures.count c.loop-place-test.false))) has)
