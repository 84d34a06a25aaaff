use Rattle.std.proofs.Common.{IfOk, subst}
use Rattle.itpg_edit.specs.Changes.{IsAsked}
use Rattle.itpg_edit.proofs.Checked.{unbroken}
use Rattle.itpg_edit.proofs.checks.resolve.Goals as goal

pub returns-clause-unbroken : goal.returns-clause-unbroken
returns-clause-unbroken c =
    let asked = subst (λ r. IfOk r (λ change. IsAsked c.args.graph.now c.args.edit.now change)) c.in-Ok.is c.find.ensures.asked in
    unbroken c.args.graph.now c.args.edit.now c.in-Ok.change asked c.in_ok-check.ensures.fits
