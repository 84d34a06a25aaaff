use Rattle.std.proofs.Common.{◌≤◌, length}
use Rattle.relation_rows.proofs.Identity.{HasEach}
use Rattle.relation_rows.proofs.gather.each_to_itself.Given as goal

abbrev pub invariant-loop-object : goal.invariant-loop-object
invariant-loop-object l = HasEach l.fn.zone l.fn.objects l.object-index l.all.items × (length l.all.items ≤ l.fn.room)
