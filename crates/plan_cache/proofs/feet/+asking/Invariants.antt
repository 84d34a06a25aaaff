use Rattle.std.proofs.Common.{◌+◌, ◌*◌}
use Rattle.plan_cache.specs.Operations.{part_term}
use Rattle.plan_cache.proofs.Footing.{part_size}
use Rattle.plan_cache.proofs.feet.+asking.Given as goal

abbrev pub decreases-asked_by : goal.decreases-asked_by
decreases-asked_by l = 2 * part_size (part_term l.test.now)

abbrev pub decreases-asked_by_both : goal.decreases-asked_by_both
decreases-asked_by_both l = 2 * (part_size (part_term l.one.now) + part_size (part_term l.other.now)) + 1
