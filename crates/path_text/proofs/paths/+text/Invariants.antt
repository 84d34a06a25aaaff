use Rattle.std.proofs.Common.{◌+◌, ◌*◌}
use Rattle.path_ast.specs.Terms.{path_term, test_term}
use Rattle.path_ast.specs.Sizes.{path_size, test_size}
use Rattle.path_text.proofs.paths.+text.Given as goal

abbrev pub decreases-push_path : goal.decreases-push_path
decreases-push_path l = 16 * path_size (path_term l.path.now) + 4

abbrev pub decreases-push_braced : goal.decreases-push_braced
decreases-push_braced l = 16 * test_size (test_term l.test.now) + 3

abbrev pub decreases-push_paths : goal.decreases-push_paths
decreases-push_paths l = 16 * (path_size (path_term l.a.now) + path_size (path_term l.b.now)) + 8

abbrev pub decreases-push_first_path : goal.decreases-push_first_path
decreases-push_first_path l = 16 * path_size (path_term l.path.now) + 5

abbrev pub decreases-push_last_path : goal.decreases-push_last_path
decreases-push_last_path l = 16 * path_size (path_term l.path.now) + 5

abbrev pub decreases-push_repeated : goal.decreases-push_repeated
decreases-push_repeated l = 16 * path_size (path_term l.body.now) + 9

abbrev pub decreases-push_test : goal.decreases-push_test
decreases-push_test l = 16 * test_size (test_term l.test.now) + 2

abbrev pub decreases-push_condition : goal.decreases-push_condition
decreases-push_condition l = 16 * path_size (path_term l.path.now) + 6

abbrev pub decreases-push_tests : goal.decreases-push_tests
decreases-push_tests l = 16 * (test_size (test_term l.a.now) + test_size (test_term l.b.now)) + 8

abbrev pub decreases-push_first_test : goal.decreases-push_first_test
decreases-push_first_test l = 16 * test_size (test_term l.test.now) + 5

abbrev pub decreases-push_last_test : goal.decreases-push_last_test
decreases-push_last_test l = 16 * test_size (test_term l.test.now) + 5

abbrev pub decreases-push_negation : goal.decreases-push_negation
decreases-push_negation l = 16 * test_size (test_term l.test.now) + 9
