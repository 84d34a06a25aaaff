use Rattle.std.proofs.Common.{◌≡◌}
use Rattle.label_scope.specs.Labels.{with_label}
use Rattle.label_scope.proofs.Placing.{put_behind}
use Rattle.label_scope.proofs.labels.free_place.Given as goal

abbrev pub invariant-loop-place : goal.invariant-loop-place
invariant-loop-place l = with_label l.names l.label ≡ put_behind l.names l.label l.place
