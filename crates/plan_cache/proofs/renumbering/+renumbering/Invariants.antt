use Rattle.std.proofs.Common.{◌+◌, ◌*◌}
use Rattle.plan_cache.specs.Operations.{part_term}
use Rattle.plan_cache.proofs.Footing.{part_size}
use Rattle.plan_cache.proofs.renumbering.+renumbering.Given as goal

abbrev pub decreases-test_renumbered : goal.decreases-test_renumbered
decreases-test_renumbered l = 2 * part_size (part_term l.test.now)

abbrev pub decreases-both_renumbered : goal.decreases-both_renumbered
decreases-both_renumbered l = 2 * (part_size (part_term l.one.now) + part_size (part_term l.other.now)) + 1
