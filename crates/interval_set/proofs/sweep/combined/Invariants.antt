use Rattle.interval_set.proofs.Swept.{Walks, ahead}
use Rattle.interval_set.proofs.sweep.combined.Given as goal

abbrev pub invariant-loop-next : goal.invariant-loop-next
invariant-loop-next l = Walks l.operation l.fn.own l.fn.other l.own l.other l.next l.spans.items

abbrev pub decreases-loop-next : goal.decreases-loop-next
decreases-loop-next l = ahead l.next
