use Rattle.std.proofs.Common.{◌+◌, ◌*◌}
use Rattle.path_ast.specs.Terms.{path_term, test_term}
use Rattle.path_ast.specs.Sizes.{path_size, test_size}
use Rattle.question_hints.proofs.asked.+asked.Given as goal

abbrev pub decreases-add_path_hints : goal.decreases-add_path_hints
decreases-add_path_hints l = 16 * path_size (path_term l.path.now) + 4

abbrev pub decreases-add_hints_of_paths : goal.decreases-add_hints_of_paths
decreases-add_hints_of_paths l = 16 * (path_size (path_term l.a.now) + path_size (path_term l.b.now)) + 8

abbrev pub decreases-add_test_hints : goal.decreases-add_test_hints
decreases-add_test_hints l = 16 * test_size (test_term l.test.now) + 3

abbrev pub decreases-add_hints_of_tests : goal.decreases-add_hints_of_tests
decreases-add_hints_of_tests l = 16 * (test_size (test_term l.a.now) + test_size (test_term l.b.now)) + 8

abbrev pub decreases-add_hints_of_both : goal.decreases-add_hints_of_both
decreases-add_hints_of_both l = 16 * (test_size (test_term l.a.now) + test_size (test_term l.b.now)) + 10
