use Rattle.std.proofs.Common.{◌+◌, ◌*◌}
use Rattle.path_ast.specs.Terms.{path_term, test_term}
use Rattle.path_ast.specs.Sizes.{path_size, test_size}
use Rattle.label_scope.proofs.paths.+scopes.Given as goal

abbrev pub decreases-side_of : goal.decreases-side_of
decreases-side_of l = 2 * path_size (path_term l.path.now) + 1

abbrev pub decreases-side_along : goal.decreases-side_along
decreases-side_along l = 2 * (path_size (path_term l.near.now) + path_size (path_term l.far.now)) + 2

abbrev pub decreases-test_src : goal.decreases-test_src
decreases-test_src l = 2 * test_size (test_term l.test.now)
