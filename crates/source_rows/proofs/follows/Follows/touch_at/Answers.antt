use Rattle.std.proofs.Common.{◌≡◌, List, Some, ap, subst}
use Rattle.std.specs.Prelude.{slice_get, slice_set}
use Rattle.source_rows.specs.Follows.{Follow}
use Rattle.source_rows.proofs.FollowLists.{read_at, unmet_set}
use Rattle.source_rows.proofs.follows.Follows.touch_at.Goals as goal

pub invariant_of-self : goal.invariant_of-self
invariant_of-self c =
    let items = c.self.inside.items.items in
    let f = c.index_mut.result.now in
    let at = read_at items c.args.self.now c.args.i f c.self.view_is c.requires c.index_mut.ensures.value in
    unmet_set c.args.touched.now items c.args.i f c.touched.new.self at c.self.invariant c.touched.ensures.unmet c.touched.ensures.rows c.touched.ensures.objects

pub returns : goal.returns
returns c =
    let items = c.self.inside.items.items in
    let f = c.index_mut.result.now in
    let at = read_at items c.args.self.now c.args.i f c.self.view_is c.requires c.index_mut.ensures.value in
    (f, c.touched.new.self, subst (λ (v : List Follow). slice_get v c.args.i ≡ Some f) c.self.view_is at, c.touched.ensures.unmet, ap (λ (v : List Follow). slice_set v c.args.i c.touched.new.self) c.self.view_is)
