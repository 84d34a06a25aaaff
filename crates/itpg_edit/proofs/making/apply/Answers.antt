use Rattle.std.proofs.Common.{rules, Result, Err, IfOk, IfErr, subst}
use Rattle.itpg_base.specs.declared.touch.Touch.{Touch}
use Rattle.itpg_edit.specs.declared.fault.EditFault.{EditFault}
use Rattle.itpg_edit.specs.declared.fault.EditFault.TheVariants.{Rule}
use Rattle.itpg_edit.specs.Changes.{IsAsked}
use Rattle.itpg_edit.specs.Next.{Makes, Excuses}
use Rattle.itpg_edit.specs.Rules.{Unbroken}
use Rattle.itpg_edit.proofs.Checked.{found}
use Rattle.itpg_edit.proofs.Exact.{rule_exact}
use Rattle.itpg_edit.proofs.Made.{next, touches}
use Rattle.itpg_edit.proofs.making.apply.Goals as goal

pub touch-touch-requires : goal.touch-touch-requires
touch-touch-requires c =
    let asked = subst (λ r. IfOk r (λ change. IsAsked c.args.graph.now c.args.edit.now change)) c.in-Ok.is c.resolve.ensures.asked in
    found c.args.graph.now c.args.edit.now c.in-Ok.change asked

pub make-requires-clause-found : goal.make-requires-clause-found
make-requires-clause-found c =
    let asked = subst (λ r. IfOk r (λ change. IsAsked c.args.graph.now c.args.edit.now change)) c.in-Ok.is c.resolve.ensures.asked in
    found c.args.graph.now c.args.edit.now c.in-Ok.change asked

pub returns-in-Err-clause-rule : goal.returns-in-Err-clause-rule
returns-in-Err-clause-rule c =
    let told : Result Touch EditFault = Err (Rule c.in-Err.rule) in
    let makes : IfOk told (λ touch. Makes c.args.graph.now c.args.edit.now c.args.graph.now touch) = search rules in
    let excuse : IfErr told (λ fault. Excuses c.args.graph.now c.args.edit.now fault) = search rules in
    rule_exact c.args.graph.now c.args.graph.now c.args.edit.now told makes excuse

pub returns-clause-makes : goal.returns-clause-makes
returns-clause-makes c =
    let asked = subst (λ r. IfOk r (λ change. IsAsked c.args.graph.now c.args.edit.now change)) c.in-Ok.is c.resolve.ensures.asked in
    record {
      unbroken = subst (λ r. IfOk r (λ _. Unbroken c.args.graph.now c.args.edit.now)) c.in-Ok.is c.resolve.ensures.unbroken;
      next = next c.args.graph.now _ c.args.edit.now c.in-Ok.change asked c.in_ok-make.ensures.ok;
      touches = touches c.args.graph.now c.touch-touch.result c.args.edit.now c.in-Ok.change asked c.touch-touch.ensures;
    }
