use Rattle.std.proofs.Common.{◌+◌, ◌*◌}
use Rattle.path_ast.specs.Terms.{path_term, test_term}
use Rattle.path_ast.specs.Sizes.{path_size, test_size}
use Rattle.question_costs.proofs.tree.Tree.+tree.Given as goal

abbrev pub decreases-add_path : goal.decreases-add_path
decreases-add_path l = 4 * path_size (path_term l.path.now) + 2

abbrev pub decreases-add_two : goal.decreases-add_two
decreases-add_two l = 4 * (path_size (path_term l.one.now) + path_size (path_term l.other.now)) + 3

abbrev pub decreases-add_test : goal.decreases-add_test
decreases-add_test l = 4 * test_size (test_term l.test.now) + 1

abbrev pub decreases-add_parts : goal.decreases-add_parts
decreases-add_parts l = 4 * test_size (test_term l.test.now)

abbrev pub decreases-add_both : goal.decreases-add_both
decreases-add_both l = 4 * (test_size (test_term l.one.now) + test_size (test_term l.other.now)) + 3
