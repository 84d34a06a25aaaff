use Rattle.std.proofs.Common.{◌≡◌, take}
use Rattle.interval_set.proofs.WithValue.{spans_with}
use Rattle.interval_set.proofs.values.ValuedSet.places.Given as goal

abbrev pub invariant-loop-place : goal.invariant-loop-place
invariant-loop-place l = l.spans.items ≡ spans_with l.value (take l.place l.self)
