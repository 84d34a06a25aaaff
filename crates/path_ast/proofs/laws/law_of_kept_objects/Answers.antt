use Rattle.path_ast.proofs.Pairs.{keeps}
use Rattle.path_ast.proofs.laws.law_of_kept_objects.Goals as goal

pub returns : goal.returns
returns c = keeps
