use Rattle.std.proofs.Common.{◌≡◌, take}
use Rattle.source_rows.specs.Follows.{kept_objects}
use Rattle.source_rows.proofs.follows.Follows.objects.Given as goal

abbrev pub invariant-loop-follow : goal.invariant-loop-follow
invariant-loop-follow l = l.count ≡ kept_objects (take l.follow-index l.follow-items)
