use Rattle.std.proofs.Common.{List, sym, subst}
use Rattle.itpg_base.specs.Lists.{Ordered}
use Rattle.relation_rows.specs.declared.rows.Row.{Row}
use Rattle.relation_rows.specs.Rows.{RowsHold}
use Rattle.relation_rows.specs.Apart.{StandsUpTo}
use Rattle.relation_rows.proofs.Covering.{sorted_alone, sorted_settled}
use Rattle.relation_rows.proofs.DirectWays.{its_relation}
use Rattle.relation_rows.proofs.item_rows.settled_relation.Goals as goal

pub settled-requires-clause-lone : goal.settled-requires-clause-lone
settled-requires-clause-lone c = sorted_alone c.args.rows.items c.sort_rows.new.rows.items c.deref.result.now c.in_ok-sort_rows.ensures.same c.deref.ensures.value c.requires

pub settled-requires-clause-order : goal.settled-requires-clause-order
settled-requires-clause-order c = subst (λ (v : List Row). Ordered StandsUpTo v) (sym c.deref.ensures.value) c.in_ok-sort_rows.ensures.order

pub invariant_of-result : goal.invariant_of-result
invariant_of-result c = its_relation (RowsHold c.deref.result.now) c.in_ok-rows.rows.items c.in_ok-rows.ensures

pub returns : goal.returns
returns c =
    (sorted_settled c.args.rows.items c.sort_rows.new.rows.items c.deref.result.now c.in_ok-rows.rows.items c.in_ok-sort_rows.ensures.same c.deref.ensures.value c.in_ok-rows.ensures).normal
