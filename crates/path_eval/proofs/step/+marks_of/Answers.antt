use Rattle.std.proofs.Common.{rules}
use Rattle.label_scope.specs.declared.scope.Scope.TheVariants.{All}
use Rattle.plan_cache.specs.Operations.{part_term}
use Rattle.plan_cache.specs.Nodes.{path_at, test_read_back}
use Rattle.condition_eval.proofs.Keeping.{filtered_marks}
use Rattle.condition_eval.proofs.Meanings.{negated, both_hold, either_holds}
use Rattle.path_eval.proofs.Steps.{if_ok_as, made_part, made_of_both}
use Rattle.path_eval.proofs.WithinBoth.{condition_within, kept_within}
use Rattle.path_eval.proofs.step.+marks_of.Goals as goal

pub marks_of-requires : goal.marks_of-requires
marks_of-requires t c =
    let on = c.args.ground.now in
    let made = c.args.made.now in
    let apart = made_of_both on.graph.now on.max_rows c.requires.good made.plans.now.nodes made.relations.now (part_term c.in-And.one.value) (part_term c.in-And.other.value) c.args.scope.now (rw c.in-And.is at c.requires.parts) in
    let those = rw c.in-Some.is at c.in_ok-kept-in-And.ensures in
    let kept = those made.plans.now.nodes in
    (search rules, (c.requires.good, (rw c.deref-in-Some.ensures apart.1, rw c.deref-in-Some-2.ensures.value (kept_within _ c.args.scope.now on.graph.now c.args.objects.now c.in-Some.kept.items kept c.requires.within))))

pub marks_of-requires-in-And : goal.marks_of-requires-in-And
marks_of-requires-in-And t c =
    let on = c.args.ground.now in
    let made = c.args.made.now in
    let apart = made_of_both on.graph.now on.max_rows c.requires.good made.plans.now.nodes made.relations.now (part_term c.in-And.one.value) (part_term c.in-And.other.value) c.args.scope.now (rw c.in-And.is at c.requires.parts) in
    (search rules, (c.requires.good, (rw c.deref-in-And.ensures apart.0, c.requires.within)))

pub marks_of-requires-in-And-2 : goal.marks_of-requires-in-And-2
marks_of-requires-in-And-2 t c =
    let on = c.args.ground.now in
    let made = c.args.made.now in
    let apart = made_of_both on.graph.now on.max_rows c.requires.good made.plans.now.nodes made.relations.now (part_term c.in-And.one.value) (part_term c.in-And.other.value) c.args.scope.now (rw c.in-And.is at c.requires.parts) in
    (search rules, (c.requires.good, (rw c.deref-in-And-2.ensures apart.1, c.requires.within)))

pub returns-in-Some : goal.returns-in-Some
returns-in-Some t c =
    let g = c.args.ground.now.graph.now in
    let nodes = c.args.made.now.plans.now.nodes in
    let one = test_read_back nodes (part_term c.in-And.one.value) in
    let other = test_read_back nodes (part_term c.in-And.other.value) in
    let those = rw c.deref.ensures at (rw c.in-Some.is at c.in_ok-kept-in-And.ensures) in
    let kept = those nodes in
    let marked = rw c.deref-in-Some-2.ensures.value at (rw c.deref-in-Some.ensures at c.marks_of.ensures) in
    rw c.in-And.is
    (if_ok_as _ _ c.marks_of.result (λ marks h. filtered_marks g one other c.args.objects.now c.in-Some.kept.items marks kept h) marked)

pub marks_of-requires-in-Or : goal.marks_of-requires-in-Or
marks_of-requires-in-Or t c =
    let on = c.args.ground.now in
    let made = c.args.made.now in
    let apart = made_of_both on.graph.now on.max_rows c.requires.good made.plans.now.nodes made.relations.now (part_term c.in-Or.one.value) (part_term c.in-Or.other.value) c.args.scope.now (rw c.in-Or.is at c.requires.parts) in
    (search rules, (c.requires.good, (rw c.deref-in-Or.ensures apart.0, c.requires.within)))

pub marks_of-requires-in-Or-2 : goal.marks_of-requires-in-Or-2
marks_of-requires-in-Or-2 t c =
    let on = c.args.ground.now in
    let made = c.args.made.now in
    let apart = made_of_both on.graph.now on.max_rows c.requires.good made.plans.now.nodes made.relations.now (part_term c.in-Or.one.value) (part_term c.in-Or.other.value) c.args.scope.now (rw c.in-Or.is at c.requires.parts) in
    (search rules, (c.requires.good, (rw c.deref-in-Or-2.ensures apart.1, c.requires.within)))

pub returns-in-Cond : goal.returns-in-Cond
returns-in-Cond t c =
    let on = c.args.ground.now in
    let made = c.args.made.now in
    let p = path_at made.plans.now.nodes c.in-Cond.no.0 in
    let parts = rw c.in-Cond.is at c.requires.parts in
    let rows = c.relation_of-leading.result.now in
    let part = made_part on.graph.now on.max_rows c.requires.good made.plans.now.nodes made.relations.now c.in-Cond.no.0 p c.args.scope.now All rows parts.0 c.relation_of-leading.ensures in
    rw c.in-Cond.is
    (if_ok_as _ _ c.starts_of.result (λ marks h. condition_within on.graph.now c.args.scope.now c.args.objects.now c.requires.within p rows marks part.0 h) c.starts_of.ensures)

pub returns-in_ok-also-in-And : goal.returns-in_ok-also-in-And
returns-in_ok-also-in-And t c =
    let nodes = c.args.made.now.plans.now.nodes in
    let one = test_read_back nodes (part_term c.in-And.one.value) in
    let other = test_read_back nodes (part_term c.in-And.other.value) in
    let own = rw c.deref-in-And.ensures at c.in_ok-own-in-And.ensures in
    let also = rw c.deref-in-And-2.ensures at c.in_ok-also-in-And.ensures in
    rw c.in-And.is
    (if_ok_as _ _ c.and.result (λ marks h. both_hold c.args.ground.now.graph.now c.args.objects.now one other c.in_ok-own-in-And.own c.in_ok-also-in-And.also marks own also h) c.and.ensures)

pub returns-in_ok-also-in-Or : goal.returns-in_ok-also-in-Or
returns-in_ok-also-in-Or t c =
    let nodes = c.args.made.now.plans.now.nodes in
    let one = test_read_back nodes (part_term c.in-Or.one.value) in
    let other = test_read_back nodes (part_term c.in-Or.other.value) in
    let own = rw c.deref-in-Or.ensures at c.in_ok-own-in-Or.ensures in
    let also = rw c.deref-in-Or-2.ensures at c.in_ok-also-in-Or.ensures in
    rw c.in-Or.is
    (if_ok_as _ _ c.or.result (λ marks h. either_holds c.args.ground.now.graph.now c.args.objects.now one other c.in_ok-own-in-Or.own c.in_ok-also-in-Or.also marks own also h) c.or.ensures)

pub returns-in_ok-own-in-Not : goal.returns-in_ok-own-in-Not
returns-in_ok-own-in-Not t c =
    let on = c.args.ground.now in
    let test = test_read_back c.args.made.now.plans.now.nodes (part_term c.in-Not.negated.value) in
    let own = rw c.deref-in-Not.ensures at c.in_ok-own-in-Not.ensures in
    rw c.in-Not.is
    (if_ok_as _ _ c.not.result (λ marks h. negated on.graph.now c.args.objects.now test on.horizon c.in_ok-own-in-Not.own marks on.begun c.requires.within.stand own h) c.not.ensures)
