use Rattle.std.specs.Prelude.{IsTrue}
use Rattle.arrivals.proofs.Existing.{least_exists, latest_exists, least_either, latest_either, tested}
use Rattle.arrivals.proofs.laws.law_of_existence.Goals as goal

pub returns-clause-first : goal.returns-clause-first
returns-clause-first c objects low high test finite = least_exists (λ x y. IsTrue (test x y)) (tested test) objects low high finite

pub returns-clause-last : goal.returns-clause-last
returns-clause-last c objects low high test finite = latest_exists (λ x y. IsTrue (test x y)) (tested test) objects low high finite

pub returns-clause-first_width : goal.returns-clause-first_width
returns-clause-first_width c objects low high test limit finite = least_either (λ x y. IsTrue (test x y)) (tested test) objects low high finite limit

pub returns-clause-last_width : goal.returns-clause-last_width
returns-clause-last_width c objects low high test limit finite = latest_either (λ x y. IsTrue (test x y)) (tested test) objects low high finite limit
