use Rattle.std.proofs.Common.{◌+◌, ◌*◌}
use Rattle.path_ast.specs.Terms.{path_term, test_term}
use Rattle.path_ast.specs.Sizes.{path_size, test_size}
use Rattle.label_scope.proofs.feet.+footprints.Given as goal

abbrev pub decreases-foot : goal.decreases-foot
decreases-foot l = 5 * path_size (path_term l.path.now) + 4

abbrev pub decreases-foot_between : goal.decreases-foot_between
decreases-foot_between l = 5 * path_size (path_term l.path.now) + 3

abbrev pub decreases-of_sequence : goal.decreases-of_sequence
decreases-of_sequence l = 5 * (path_size (path_term l.first.now) + path_size (path_term l.second.now)) + 5

abbrev pub decreases-of_choice : goal.decreases-of_choice
decreases-of_choice l = 5 * (path_size (path_term l.one.now) + path_size (path_term l.other.now)) + 5

abbrev pub decreases-of_repetition : goal.decreases-of_repetition
decreases-of_repetition l = 5 * path_size (path_term l.body.now) + 5

abbrev pub decreases-asked_by : goal.decreases-asked_by
decreases-asked_by l = 5 * test_size (test_term l.test.now) + 1

abbrev pub decreases-asked_by_both : goal.decreases-asked_by_both
decreases-asked_by_both l = 5 * (test_size (test_term l.one.now) + test_size (test_term l.other.now)) + 2
