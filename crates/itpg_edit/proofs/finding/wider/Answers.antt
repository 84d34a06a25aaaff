use Rattle.std.proofs.Common.{◌≡◌, ◌≤ℤ◌, rules}
use Rattle.itpg_edit.specs.Facts.{span_of}
use Rattle.itpg_edit.proofs.Widening.{narrow, wider}
use Rattle.itpg_edit.proofs.finding.wider.Goals as goal

pub returns-then-leaves-clause-broken : goal.returns-then-leaves-clause-broken
returns-then-leaves-clause-broken c =
    let ordered : c.args.lo ≤ℤ c.args.hi = search rules in
    let is : c.in_ok-span.span ≡ span_of c.args.lo c.args.hi = search rules in
    narrow c.args.graph.now c.args.lo c.args.hi c.in-Some.horizon c.in_ok-span.span c.in-Some.ensures.value is ordered (c.leaves.ensures.outside c.if-leaves.true)

pub returns-else-leaves-clause-wider : goal.returns-else-leaves-clause-wider
returns-else-leaves-clause-wider c =
    let ordered : c.args.lo ≤ℤ c.args.hi = search rules in
    let is : c.in_ok-span.span ≡ span_of c.args.lo c.args.hi = search rules in
    wider c.args.graph.now c.args.lo c.args.hi c.in-Some.horizon c.in_ok-span.span c.in-Some.ensures.value is ordered (c.leaves.ensures.inside c.if-leaves.false)
