use Rattle.std.proofs.Common.{List, subst}
use Rattle.zone_core.specs.declared.Bounds.{Bounds}
use Rattle.relation_rows.proofs.Leaving.{AreClear, AreWithout, clear_without}
use Rattle.relation_rows.proofs.minus.less.Goals as goal

pub returns-then-are_clear_of : goal.returns-then-are_clear_of
returns-then-are_clear_of c =
    clear_without c.args.zones.items c.args.cut.now
    (subst (λ (v : List Bounds). AreClear v c.args.cut.now) c.deref.ensures.value (c.are_clear_of.ensures c.if-are_clear_of.true))

pub returns : goal.returns
returns c = subst (λ (v : List Bounds). AreWithout v c.args.cut.now c.in_ok-left.left.items) c.deref-2.ensures.value c.in_ok-left.ensures
