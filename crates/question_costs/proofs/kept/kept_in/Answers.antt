use Rattle.std.proofs.Common.{◌≡◌, [], ◌∷◌, ◌∙◌, ◌↔◌, ◌<◌, ℕ, ap, length, subst, arith}
use Rattle.std.specs.Prelude.{IsTrue}
use Rattle.std.proofs.lemmas.List.{length-append}
use Rattle.plan_cache.specs.declared.operations.PlanNo.{PlanNo}
use Rattle.question_costs.specs.Kept.{HasRelation}
use Rattle.question_costs.proofs.KeptLemmas.{number_got, one_more_mark, only_kept, all_kept}
use Rattle.question_costs.proofs.kept.kept_in.Goals as goal

pub loop-place-preserved : goal.loop-place-preserved
loop-place-preserved c =
    let marks = c.loop-place.kept.items in
    let numbers = c.in_ok-numbers.numbers.items in
    let b = c.has_relation.result in
    let below : c.loop-place.place < length numbers = (let test = c.loop-place-test.true in let end = c.len-place-end.ensures in omega (arith, test, end)) in
    let number = ap (λ (v : PlanNo). v.0) c.index.ensures ∙ number_got numbers c.loop-place.place _ below in
    rw c.in_ok-push.ensures.items
    record {
      many = let l = length-append marks (b ∷ []) in let n = c.loop-place.invariant.many in omega arith;
      right =
          one_more_mark c.args.other.now.kept numbers marks b c.loop-place.place c.loop-place.invariant.many c.loop-place.invariant.right
          (subst (λ (v : ℕ). IsTrue b ↔ HasRelation c.args.other.now.kept v) number c.has_relation.ensures);
    }

pub returns-clause-only : goal.returns-clause-only
returns-clause-only c =
    let marks = c.loop-place.kept.items in
    let numbers = c.in_ok-numbers.numbers.items in
    let long : length marks ≡ length numbers =
    (let test = c.loop-place-test.false in let end = c.len-place-end.ensures in let many = c.loop-place.invariant.many in let last = c.loop-place.auto.place-end in omega (arith, test, end, many, last)) in
    only_kept c.args.nodes.now.nodes c.args.other.now c.law_of_shared_nodes.ensures.each numbers c.in_ok-numbers.ensures.each c.in_ok-numbers.ensures.there marks long
    (λ k low. c.loop-place.invariant.right k (let many = c.loop-place.invariant.many in omega (arith, low, long, many)))

pub returns-clause-each : goal.returns-clause-each
returns-clause-each c =
    let marks = c.loop-place.kept.items in
    let numbers = c.in_ok-numbers.numbers.items in
    let long : length marks ≡ length numbers =
    (let test = c.loop-place-test.false in let end = c.len-place-end.ensures in let many = c.loop-place.invariant.many in let last = c.loop-place.auto.place-end in omega (arith, test, end, many, last)) in
    all_kept c.args.nodes.now.nodes c.args.other.now c.law_of_shared_nodes.ensures.each numbers c.in_ok-numbers.ensures.each c.in_ok-numbers.ensures.there marks long
    (λ k low. c.loop-place.invariant.right k (let many = c.loop-place.invariant.many in omega (arith, low, long, many)))
