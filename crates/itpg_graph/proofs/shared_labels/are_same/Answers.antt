use Rattle.std.proofs.Common.{◌≡◌, ◌<◌, sym, subst, ◌∙◌, rules}
use Rattle.std.specs.Prelude.{slice_get}
use Rattle.itpg_graph.proofs.LabelLists.{front_alike}
use Rattle.itpg_graph.proofs.shared_labels.are_same.Goals as goal

pub loop-place-preserved : goal.loop-place-preserved
loop-place-preserved c =
    let is : c.get.result ≡ c.get-in-loop-place.result = search rules in
    let same : slice_get c.args.one.now c.loop-place.place ≡ slice_get c.args.other.now c.loop-place.place = sym c.get.ensures ∙ is ∙ c.get-in-loop-place.ensures in
    front_alike c.args.one.now c.args.other.now c.loop-place.place (subst (λ n. c.loop-place.place < n) c.len-place-end.ensures.count c.loop-place-test.true) same c.loop-place.invariant
