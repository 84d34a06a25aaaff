use Rattle.relation_rows.proofs.TimeLaws.{times_unique}
use Rattle.path_ast.specs.Meaning.{Rel}
use Rattle.path_eval.specs.Answering.{DepartsAt, ArrivesAt}
use Rattle.path_eval.proofs.Finite.{departures, arrivals}
use Rattle.path_eval.proofs.laws.law_of_times.Goals as goal

pub returns-clause-departures : goal.returns-clause-departures
returns-clause-departures c = departures

pub returns-clause-arrivals : goal.returns-clause-arrivals
returns-clause-arrivals c = arrivals

pub returns-clause-one_departing : goal.returns-clause-one_departing
returns-clause-one_departing c = λ g p. times_unique (DepartsAt (Rel p g))

pub returns-clause-one_arriving : goal.returns-clause-one_arriving
returns-clause-one_arriving c = λ g p. times_unique (ArrivesAt (Rel p g))
