use Rattle.std.proofs.Common.{rules, tests}
use Rattle.std.proofs.lemmas.Iterator.{IsFirst-from_position, YieldsList-from_slice}
use Rattle.question_costs.proofs.Firsts.{IsOverHere, IsNotOver, first_some, first_before, first_none}
use Rattle.question_costs.proofs.counting.Counted.first_over.Goals as goal

pub returns-clause-some : goal.returns-clause-some
returns-clause-some c =
    let ms = c.args.self.now.members.items in
    first_some c.position.result ms (IsFirst-from_position _ _ c.position.result IsOverHere IsNotOver c.position.ensures.ran (YieldsList-from_slice ms cc) (λ x q k. search (rules, tests)) (λ x q k. search (rules, tests)))

pub returns-clause-first : goal.returns-clause-first
returns-clause-first c =
    let ms = c.args.self.now.members.items in
    first_before c.position.result ms (IsFirst-from_position _ _ c.position.result IsOverHere IsNotOver c.position.ensures.ran (YieldsList-from_slice ms cc) (λ x q k. search (rules, tests)) (λ x q k. search (rules, tests)))

pub returns-clause-none : goal.returns-clause-none
returns-clause-none c =
    let ms = c.args.self.now.members.items in
    first_none c.position.result ms (IsFirst-from_position _ _ c.position.result IsOverHere IsNotOver c.position.ensures.ran (YieldsList-from_slice ms cc) (λ x q k. search (rules, tests)) (λ x q k. search (rules, tests)))
