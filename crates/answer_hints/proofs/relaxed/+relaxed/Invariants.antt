use Rattle.std.proofs.Common.{◌+◌, ◌*◌}
use Rattle.path_ast.specs.Terms.{path_term, test_term}
use Rattle.path_ast.specs.Sizes.{path_size, test_size}
use Rattle.answer_hints.proofs.relaxed.+relaxed.Given as goal

abbrev pub decreases-relaxed_path : goal.decreases-relaxed_path
decreases-relaxed_path l = 16 * path_size (path_term l.path.now) + 4

abbrev pub decreases-relaxed_pair : goal.decreases-relaxed_pair
decreases-relaxed_pair l = 16 * (path_size (path_term l.a.now) + path_size (path_term l.b.now)) + 12

abbrev pub decreases-boxed_path : goal.decreases-boxed_path
decreases-boxed_path l = 16 * path_size (path_term l.path.now) + 8

abbrev pub decreases-relaxed_of_test : goal.decreases-relaxed_of_test
decreases-relaxed_of_test l = 16 * test_size (test_term l.test.now) + 2

abbrev pub decreases-boxed_test : goal.decreases-boxed_test
decreases-boxed_test l = 16 * test_size (test_term l.test.now) + 3
