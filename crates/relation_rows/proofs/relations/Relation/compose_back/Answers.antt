use Rattle.std.proofs.Common.{◌≡◌, ◌↔◌, ◌∙◌, List, subst}
use Rattle.itpg_base.specs.Points.{Point}
use Rattle.relation_rows.specs.declared.rows.Row.{Row}
use Rattle.relation_rows.specs.Relations.{ItemsHold, HasMiddlePoint}
use Rattle.relation_rows.proofs.Giving.{gives_alike}
use Rattle.relation_rows.proofs.relations.Relation.compose_back.Goals as goal

pub returns : goal.returns
returns c =
    let first = subst (λ (v : List Row). (x y : Point) → ItemsHold c.in_ok-ways.ways.items x y ↔ (HasMiddlePoint v c.deref-2.result.now x y × (x.object ≡ y.object))) (c.deref.ensures.value ∙ c.self.view_is) c.in_ok-ways.ensures in
    let ways = subst (λ (v : List Row). (x y : Point) → ItemsHold c.in_ok-ways.ways.items x y ↔ (HasMiddlePoint c.args.self.now v x y × (x.object ≡ y.object))) (c.deref-2.ensures.value ∙ c.other.view_is) first in
    gives_alike (ItemsHold c.in_ok-ways.ways.items) (λ x y. HasMiddlePoint c.args.self.now c.args.other.now x y × (x.object ≡ y.object))
    (λ x y. (ways x y).0) (λ x y. (ways x y).1) c.args.max_rows c.gathered_of.result c.gathered_of.ensures.gives
