use Rattle.std.proofs.Common.{rules, Result, Err, IfOk, IfErr, subst}
use Rattle.itpg_edit.specs.declared.fault.EditFault.{EditFault}
use Rattle.itpg_edit.specs.declared.fault.EditFault.TheVariants.{Rule}
use Rattle.itpg_edit.specs.Changes.{IsAsked}
use Rattle.itpg_edit.specs.Next.{Excuses}
use Rattle.itpg_edit.specs.Rules.{Unbroken}
use Rattle.itpg_edit.proofs.Checked.{found}
use Rattle.itpg_edit.proofs.Exact.{exact}
use Rattle.itpg_edit.proofs.making.make_edit.Goals as goal

pub make-requires-clause-found : goal.make-requires-clause-found
make-requires-clause-found c =
    let asked = subst (λ r. IfOk r (λ change. IsAsked c.args.graph.now c.args.edit.now change)) c.in-Ok.is c.resolve.ensures.asked in
    found c.args.graph.now c.args.edit.now c.in-Ok.change asked

pub returns-in-Err-clause-rule : goal.returns-in-Err-clause-rule
returns-in-Err-clause-rule c =
    let told : Result (Unit {0}) EditFault = Err (Rule c.in-Err.rule) in
    let unbroken : IfOk told (λ _. Unbroken c.args.graph.now c.args.edit.now) = tt in
    let excuse : IfErr told (λ fault. Excuses c.args.graph.now c.args.edit.now fault) = search rules in
    exact c.args.graph.now c.args.edit.now told unbroken excuse
