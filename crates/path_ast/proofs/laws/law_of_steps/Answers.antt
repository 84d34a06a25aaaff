use Rattle.path_ast.proofs.Axes.{from_source, to_target}
use Rattle.path_ast.proofs.laws.law_of_steps.Goals as goal

pub returns-clause-from_source : goal.returns-clause-from_source
returns-clause-from_source c = from_source

pub returns-clause-to_target : goal.returns-clause-to_target
returns-clause-to_target c = to_target
