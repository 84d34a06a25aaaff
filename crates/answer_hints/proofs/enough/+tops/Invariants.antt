use Rattle.std.proofs.Common.{◌+◌, ◌*◌}
use Rattle.path_ast.specs.Terms.{path_term}
use Rattle.path_ast.specs.Sizes.{path_size}
use Rattle.answer_hints.proofs.enough.+tops.Given as goal

abbrev pub decreases-add_hints : goal.decreases-add_hints
decreases-add_hints l = 4 * path_size (path_term l.path.now) + 1

abbrev pub decreases-add_hints_of_both : goal.decreases-add_hints_of_both
decreases-add_hints_of_both l = 4 * (path_size (path_term l.a.now) + path_size (path_term l.b.now)) + 2
