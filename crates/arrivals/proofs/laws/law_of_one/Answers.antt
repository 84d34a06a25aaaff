use Rattle.std.specs.Prelude.{IsTrue}
use Rattle.arrivals.proofs.Existing.{some_least, some_latest, one_least, one_latest, tested}
use Rattle.arrivals.proofs.laws.law_of_one.Goals as goal

pub returns-clause-first : goal.returns-clause-first
returns-clause-first c objects low high test x y finite h = some_least (λ x y. IsTrue (test x y)) (tested test) objects low high finite x y h

pub returns-clause-last : goal.returns-clause-last
returns-clause-last c objects low high test x y finite h = some_latest (λ x y. IsTrue (test x y)) (tested test) objects low high finite x y h

pub returns-clause-no_second : goal.returns-clause-no_second
returns-clause-no_second c test x y z h k e = one_least (λ x y. IsTrue (test x y)) x y z h k e

pub returns-clause-none_other : goal.returns-clause-none_other
returns-clause-none_other c test x z y h k e = one_latest (λ x y. IsTrue (test x y)) x z y h k e
