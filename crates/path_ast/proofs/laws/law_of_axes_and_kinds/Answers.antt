use Rattle.path_ast.proofs.Axes.{forward_kinds, backward_kinds}
use Rattle.path_ast.proofs.laws.law_of_axes_and_kinds.Goals as goal

pub returns-clause-forward : goal.returns-clause-forward
returns-clause-forward c = forward_kinds

pub returns-clause-backward : goal.returns-clause-backward
returns-clause-backward c = backward_kinds
