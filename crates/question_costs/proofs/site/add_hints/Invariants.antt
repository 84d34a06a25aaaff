use Rattle.std.proofs.Common.{◌≡◌, ◌++◌, drop}
use Rattle.question_costs.specs.Texts.{hints_text}
use Rattle.question_costs.proofs.site.add_hints.Given as goal

abbrev pub invariant-loop-hint : goal.invariant-loop-hint
invariant-loop-hint l = l.text.items ++ hints_text (drop l.hint-index l.hints) ≡ l.initial.text.items ++ hints_text l.hints
