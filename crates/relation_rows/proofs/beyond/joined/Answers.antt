use Rattle.std.proofs.Common.{◌⊎◌, List, subst}
use Rattle.itpg_base.specs.Points.{Point}
use Rattle.relation_rows.specs.Relations.{HoldsOrLeads, Item, ItemsHold}
use Rattle.relation_rows.specs.Rows.{NormalRows, RowsHold}
use Rattle.relation_rows.proofs.DirectWays.{relation_lone}
use Rattle.relation_rows.proofs.Giving.{gives_alike}
use Rattle.relation_rows.proofs.Joining.{joined_holds}
use Rattle.relation_rows.proofs.beyond.joined.Goals as goal

pub relation_of-requires : goal.relation_of-requires
relation_of-requires c = relation_lone c.args.all.now c.requires.all

pub returns : goal.returns
returns c =
    let fresh = c.in_ok-fresh.fresh.items in
    let made = c.in_ok-relation.relation in
    let normal = subst (λ (v : List Item). NormalRows (λ (x y : Point). ItemsHold v x y ⊎ RowsHold c.args.all.now x y) made) c.deref.ensures.value c.in_ok-relation.ensures in
    let same = joined_holds c.args.all.now c.args.rows.now c.args.second.now made fresh c.in_ok-fresh.ensures.there c.in_ok-fresh.ensures.each normal in
    gives_alike (RowsHold made) (HoldsOrLeads c.args.all.now c.args.rows.now c.args.second.now) (λ x y. (same x y).0) (λ x y. (same x y).1) c.args.room c.within.result c.within.ensures
