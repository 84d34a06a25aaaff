use Rattle.std.proofs.Common.{◌≡◌, Some, take, sym, subst, ◌∙◌}
use Rattle.std.specs.Prelude.{slice_get}
use Rattle.itpg_base.specs.Words.{Word}
use Rattle.itpg_graph.proofs.LabelLists.{IsReserved, one_reserved, front_more}
use Rattle.itpg_graph.proofs.by_label.ByLabel.reserve.Goals as goal

pub loop-place-preserved : goal.loop-place-preserved
loop-place-preserved c =
    let labels = c.args.labels.now in
    let i = c.loop-place.place in
    let x : Word = c.unwrap.result in
    let at : slice_get labels i ≡ Some x = sym c.get.ensures ∙ c.unwrap.ensures in
    subst (λ front. IsReserved c.args.self.now c.reserve_with.new.self front) (sym (front_more labels i x at))
    (one_reserved c.args.self.now c.loop-place.self c.reserve_with.new.self (take i labels) x c.loop-place.invariant c.reserve_with.ensures.same c.reserve_with.ensures.others c.in_ok-reserve_with.ensures.room)
