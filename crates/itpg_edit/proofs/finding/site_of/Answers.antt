use Rattle.std.proofs.Common.{◌≡◌, ◌≤ℤ◌, rules}
use Rattle.itpg_edit.specs.Facts.{span_of}
use Rattle.itpg_edit.proofs.Checked.{outside, inside}
use Rattle.itpg_edit.proofs.finding.site_of.Goals as goal

pub returns-then-leaves-clause-broken : goal.returns-then-leaves-clause-broken
returns-then-leaves-clause-broken c =
    let ordered : c.args.from ≤ℤ c.args.to = search rules in
    let is : c.in-Some-new.span ≡ span_of c.args.from c.args.to = search rules in
    outside c.args.graph.now c.args.id.now c.args.from c.args.to c.in-Some-find.object c.in-Some.horizon c.in-Some-new.span c.find.ensures.good c.in-Some.ensures.value c.in-Some-find.ensures.found is ordered (c.leaves.ensures.outside c.if-leaves.true)

pub returns-else-leaves-clause-site : goal.returns-else-leaves-clause-site
returns-else-leaves-clause-site c =
    let ordered : c.args.from ≤ℤ c.args.to = search rules in
    let is : c.in-Some-new.span ≡ span_of c.args.from c.args.to = search rules in
    inside c.args.graph.now c.args.id.now c.args.from c.args.to c.in-Some-find.object c.in-Some.horizon c.in-Some-new.span c.find.ensures.good c.in-Some.ensures.value c.in-Some-find.ensures.found is ordered (c.leaves.ensures.inside c.if-leaves.false)
