use Rattle.plan_cache.specs.Operations.{part_term}
use Rattle.path_eval.specs.Working.{part_size}
use Rattle.path_eval.proofs.step.+marks_of.Given as goal

abbrev pub decreases-marks_of : goal.decreases-marks_of
decreases-marks_of l = part_size (part_term l.test.now)
