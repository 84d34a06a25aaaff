use Rattle.std.proofs.Common.{add-one, None, arith}
use Rattle.path_ast.specs.Meaning.{Rel}
use Rattle.path_ast.specs.Walks.{Power}
use Rattle.path_ast.proofs.Pairs.{starts_at, ends_at}
use Rattle.path_ast.proofs.Powers.{repeated_power, power_repeated, first_power, power_first, alone_power, power_alone}
use Rattle.path_ast.proofs.laws.law_of_powers.Goals as goal

pub returns-clause-union : goal.returns-clause-union
returns-clause-union c = λ p n m g x y. (repeated_power g (Rel p g) (starts_at p g) (ends_at p g) n m x y, power_repeated g (Rel p g) (starts_at p g) (ends_at p g) n m x y)

pub returns-clause-alone : goal.returns-clause-alone
returns-clause-alone c = λ p n g x y. (alone_power g (Rel p g) (starts_at p g) (ends_at p g) n x y, power_alone g (Rel p g) (starts_at p g) (ends_at p g) n x y)

pub returns-clause-all : goal.returns-clause-all
returns-clause-all c = λ p g x y. (λ h. let power = repeated_power g (Rel p g) (starts_at p g) (ends_at p g) 0 None x y h in (power.0, power.2), λ h. power_repeated g (Rel p g) (starts_at p g) (ends_at p g) 0 None x y (h.0, (omega arith, tt), h.1))

pub returns-clause-zeroth : goal.returns-clause-zeroth
unfolding Power
returns-clause-zeroth c = λ p g x y. (λ h. h, λ h. h)

pub returns-clause-first : goal.returns-clause-first
returns-clause-first c = λ p g x y. (first_power g (Rel p g) (starts_at p g) (ends_at p g) x y, power_first g (Rel p g) (starts_at p g) (ends_at p g) x y)

pub returns-clause-next : goal.returns-clause-next
unfolding Power
returns-clause-next c = λ p k g x y. rw add-one (λ h. h, λ h. h)
