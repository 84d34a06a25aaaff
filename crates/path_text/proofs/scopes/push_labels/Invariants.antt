use Rattle.std.proofs.Common.{◌≡◌, ◌++◌, drop}
use Rattle.path_text.specs.ScopeTexts.{more_labels}
use Rattle.path_text.proofs.scopes.push_labels.Given as goal

abbrev pub invariant-loop-label : goal.invariant-loop-label
invariant-loop-label l = l.text.items ++ more_labels (drop l.label-index l.labels) ≡ l.initial.text.items ++ more_labels l.labels
