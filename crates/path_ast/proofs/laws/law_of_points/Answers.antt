use Rattle.path_ast.proofs.Pairs.{starts_at, ends_at}
use Rattle.path_ast.proofs.laws.law_of_points.Goals as goal

pub returns-clause-first : goal.returns-clause-first
returns-clause-first c = starts_at

pub returns-clause-last : goal.returns-clause-last
returns-clause-last c = ends_at
