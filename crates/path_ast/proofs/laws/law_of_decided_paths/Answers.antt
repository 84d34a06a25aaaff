use Rattle.path_ast.proofs.Deciding.{decide_rel}
use Rattle.path_ast.proofs.laws.law_of_decided_paths.Goals as goal

pub returns : goal.returns
returns c = decide_rel
