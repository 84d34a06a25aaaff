use Rattle.std.proofs.Common.{◌^◌, Some, None}
use Rattle.path_eval.proofs.Bounded.{within_many, of_any, of_more}
use Rattle.path_eval.proofs.many_times.law_of_many_times.Goals as goal

pub returns-clause-any : goal.returns-clause-any
returns-clause-any c = λ p g x y good. (within_many p g None x y good, of_any p g (2 ^ 60) x y)

pub returns-clause-many : goal.returns-clause-many
returns-clause-many c = λ p g n x y good many. (within_many p g (Some n) x y good, of_more p g (2 ^ 60) n x y many)
