use Rattle.std.proofs.Common.{◌<◌, IfSome, List, Option, ℕ, sym, subst, arith}
use Rattle.relation_rows.specs.Relations.{HoldsOrLeads, OnlyFirstHolds}
use Rattle.relation_rows.specs.Rows.{NormalRows}
use Rattle.relation_rows.specs.declared.rows.Row.{Row}
use Rattle.wide_witness.proofs.Closing.{AreClosed, closed_fits, closed_whole, none_closed, nothing, step_closed}
use Rattle.wide_witness.proofs.by_source.closed_from.Goals as goal

pub loop-count-init : goal.loop-count-init
loop-count-init c =
    subst (λ (v : ℕ). AreClosed c.args.one.now c.args.onward.now c.args.source.0 0 v c.in_ok-known.known c.in_ok-newest.newest) (sym c.row_count-most_rows.ensures.count)
    (none_closed c.args.one.now c.args.onward.now c.args.source.0 c.requires c.in_ok-known.known c.in_ok-newest.newest c.in_ok-known.ensures c.in_ok-newest.ensures)

pub returns-then-row_count-eq0-clause-made : goal.returns-then-row_count-eq0-clause-made
returns-then-row_count-eq0-clause-made c = λ most le.
    closed_whole c.args.one.now c.args.onward.now c.args.source.0 c.loop-count.count c.loop-count.most_rows c.loop-count.known c.loop-count.newest c.loop-count.invariant c.in-Some.next c.in-Some.fresh
    (subst (λ (v : Option (List Row × List Row)). IfSome v (λ p. NormalRows (HoldsOrLeads c.loop-count.known c.loop-count.newest c.args.onward.now) p.0)) c.in-Some.is c.in_ok-next.ensures.all)
    (subst (λ (v : Option (List Row × List Row)). IfSome v (λ p. NormalRows (OnlyFirstHolds p.0 c.loop-count.known) p.1)) c.in-Some.is c.in_ok-next.ensures.fresh) (nothing c.in-Some.fresh (omega (arith, c.row_count.ensures.count, c.if-row_count-eq0.true)))
    most (let k : c.loop-count.count < c.args.limit = c.loop-count-test.true in omega (arith, k, le))

pub returns-then-row_count-eq0-clause-few : goal.returns-then-row_count-eq0-clause-few
returns-then-row_count-eq0-clause-few c =
    closed_fits c.args.one.now c.args.onward.now c.args.source.0 c.loop-count.count c.loop-count.most_rows c.loop-count.known c.loop-count.newest c.loop-count.invariant c.in-Some.next c.in-Some.fresh
    (subst (λ (v : Option (List Row × List Row)). IfSome v (λ p. NormalRows (HoldsOrLeads c.loop-count.known c.loop-count.newest c.args.onward.now) p.0)) c.in-Some.is c.in_ok-next.ensures.all)
    (subst (λ (v : Option (List Row × List Row)). IfSome v (λ p. NormalRows (OnlyFirstHolds p.0 c.loop-count.known) p.1)) c.in-Some.is c.in_ok-next.ensures.fresh) (nothing c.in-Some.fresh (omega (arith, c.row_count.ensures.count, c.if-row_count-eq0.true)))

pub loop-count-preserved : goal.loop-count-preserved
loop-count-preserved c =
    step_closed c.args.one.now c.args.onward.now c.args.source.0 c.loop-count.count c.loop-count.most_rows c.loop-count.known c.loop-count.newest c.loop-count.invariant c.in-Some.next c.in-Some.fresh
    (subst (λ (v : Option (List Row × List Row)). IfSome v (λ p. NormalRows (HoldsOrLeads c.loop-count.known c.loop-count.newest c.args.onward.now) p.0)) c.in-Some.is c.in_ok-next.ensures.all)
    (subst (λ (v : Option (List Row × List Row)). IfSome v (λ p. NormalRows (OnlyFirstHolds p.0 c.loop-count.known) p.1)) c.in-Some.is c.in_ok-next.ensures.fresh) c.max-most_rows.result (omega arith) (omega (arith, c.row_count-in-loop-count.ensures.count))
