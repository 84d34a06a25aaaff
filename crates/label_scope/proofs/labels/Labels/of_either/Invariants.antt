use Rattle.std.proofs.Common.{◌≡◌, drop}
use Rattle.label_scope.specs.Labels.{labels_of_either}
use Rattle.label_scope.proofs.labels.Labels.of_either.Given as goal

abbrev pub invariant-loop-name : goal.invariant-loop-name
invariant-loop-name l = labels_of_either l.labels (drop l.name-index l.other) ≡ labels_of_either l.self l.other
