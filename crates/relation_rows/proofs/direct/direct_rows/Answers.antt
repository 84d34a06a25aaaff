use Rattle.std.proofs.Common.{[], true, List, Option, refl, sym, subst}
use Rattle.std.specs.Prelude.{IfSome}
use Rattle.std.specs.Global.{Global}
use Rattle.std.specs.declared.vec.Vec.{Vec}
use Rattle.itpg_base.specs.Lists.{Ordered}
use Rattle.relation_rows.specs.declared.rows.Row.{Row}
use Rattle.relation_rows.specs.Rows.{RowsHold}
use Rattle.relation_rows.specs.Relations.{HasMiddlePoint}
use Rattle.relation_rows.specs.Apart.{AreLone, ComesApart, StandsUpTo}
use Rattle.relation_rows.specs.Direct.{AddsWays, AreItsRows}
use Rattle.relation_rows.proofs.DirectWays.{its_rows, sorted_lone, its_settled, told_lone}
use Rattle.relation_rows.proofs.direct.direct_rows.Goals as goal

pub stand_apart-requires : goal.stand_apart-requires
stand_apart-requires c =
    let ways = subst (λ (v : Option (Vec Row Global)). IfSome v (λ ways. AddsWays (HasMiddlePoint c.args.rows.now c.args.second.now) true [] ways.items)) c.in-Some.is c.in_ok-ways.ensures in
    subst AreLone (sym c.deref.ensures.value) (told_lone (HasMiddlePoint c.args.rows.now c.args.second.now) c.in-Some.ways.items ways)

pub returns-then-stand_apart : goal.returns-then-stand_apart
returns-then-stand_apart c =
    let ways = subst (λ (v : Option (Vec Row Global)). IfSome v (λ ways. AddsWays (HasMiddlePoint c.args.rows.now c.args.second.now) true [] ways.items)) c.in-Some.is c.in_ok-ways.ensures in
    its_rows (HasMiddlePoint c.args.rows.now c.args.second.now) c.in-Some.ways.items c.in-Some.ways.items ways
    (subst (λ (v : List Row). Ordered ComesApart v) c.deref.ensures.value (c.if-stand_apart.ensures refl)) (λ r. (λ a. a, λ a. a))

pub settled-requires-clause-lone : goal.settled-requires-clause-lone
settled-requires-clause-lone c =
    let ways = subst (λ (v : Option (Vec Row Global)). IfSome v (λ ways. AddsWays (HasMiddlePoint c.args.rows.now c.args.second.now) true [] ways.items)) c.in-Some.is c.in_ok-ways.ensures in
    subst AreLone (sym c.deref-2.ensures.value) (sorted_lone (HasMiddlePoint c.args.rows.now c.args.second.now) c.in-Some.ways.items c.sort_rows.new.rows.items ways c.in_ok-sort_rows.ensures.same)

pub settled-requires-clause-order : goal.settled-requires-clause-order
settled-requires-clause-order c = subst (λ (v : List Row). Ordered StandsUpTo v) (sym c.deref-2.ensures.value) c.in_ok-sort_rows.ensures.order

pub returns : goal.returns
returns c =
    let R = HasMiddlePoint c.args.rows.now c.args.second.now in
    let ways = subst (λ (v : Option (Vec Row Global)). IfSome v (λ ways. AddsWays R true [] ways.items)) c.in-Some.is c.in_ok-ways.ensures in
    its_settled R c.in-Some.ways.items c.sort_rows.new.rows.items c.in_ok-settled.field-0.items ways c.in_ok-sort_rows.ensures.same
    (subst (λ (v : List Row). AreItsRows (RowsHold v) c.in_ok-settled.field-0.items) c.deref-2.ensures.value c.in_ok-settled.ensures)
