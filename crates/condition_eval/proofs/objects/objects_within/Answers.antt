use Rattle.std.proofs.Common.{sym, subst}
use Rattle.condition_eval.specs.Within.{AreWithin}
use Rattle.condition_eval.proofs.Listed.{listed_within}
use Rattle.condition_eval.proofs.objects.objects_within.Goals as goal

pub returns-in_ok-listed-in-Some-clause-within : goal.returns-in_ok-listed-in-Some-clause-within
returns-in_ok-listed-in-Some-clause-within c =
    subst (λ scope. AreWithin scope c.args.graph.now c.in_ok-listed-in-Some.listed.items) (sym c.in-Some.ensures) (listed_within c.args.graph.now c.in-Some.label.now c.in_ok-listed-in-Some.listed.items c.in_ok-listed-in-Some.ensures.numbers)
