use Rattle.std.proofs.Common.{ap, subst, arith, inl, inr}
use Rattle.label_scope.specs.Footprints.{footprint}
use Rattle.label_scope.specs.declared.scope.Scope.TheVariants.{All}
use Rattle.plan_cache.specs.declared.operations.PlanTest.{PlanTest}
use Rattle.plan_cache.specs.Operations.{part_term, part_children}
use Rattle.plan_cache.specs.Nodes.{conditions, path_at, test_read_back}
use Rattle.plan_cache.specs.Footprints.{AreFootprintsOf}
use Rattle.plan_cache.proofs.Footing.{part_size, got_foot, same_given, both_parted}
use Rattle.plan_cache.proofs.feet.+asking.Goals as goal

pub asked_by-asked_by_both-requires : goal.asked_by-asked_by_both-requires
asked_by-asked_by_both-requires t c =
    let one = ap (λ (v : PlanTest). part_size (part_term v)) c.deref-in-And.ensures in
    let other = ap (λ (v : PlanTest). part_size (part_term v)) c.deref-in-And-2.ensures in
    elim c.in-And.is [
      | inl e ↦ (
          let size = ap (λ (v : PlanTest). part_size (part_term v)) e in
          let all = subst (λ (v : PlanTest). AreFootprintsOf c.args.feet.now (part_children (part_term v)) (conditions (test_read_back c.args.nodes.now (part_term v)) c.args.scope.now)) e c.requires in
          (omega arith, rw (c.deref-in-And.ensures, c.deref-in-And-2.ensures) (both_parted c.args.nodes.now c.args.feet.now (part_term c.in-And.one.value) (part_term c.in-And.other.value) c.args.scope.now all)))
      | inr e ↦ (
          let size = ap (λ (v : PlanTest). part_size (part_term v)) e in
          let all = subst (λ (v : PlanTest). AreFootprintsOf c.args.feet.now (part_children (part_term v)) (conditions (test_read_back c.args.nodes.now (part_term v)) c.args.scope.now)) e c.requires in
          (omega arith, rw (c.deref-in-And.ensures, c.deref-in-And-2.ensures) (both_parted c.args.nodes.now c.args.feet.now (part_term c.in-And.one.value) (part_term c.in-And.other.value) c.args.scope.now all)))
    ]

pub asked_by-returns-in-Cond : goal.asked_by-returns-in-Cond
asked_by-returns-in-Cond t c =
    let there = subst (λ (v : PlanTest). AreFootprintsOf c.args.feet.now (part_children (part_term v)) (conditions (test_read_back c.args.nodes.now (part_term v)) c.args.scope.now)) c.in-Cond.is c.requires in
    let same = got_foot c.args.feet.now c.in-Cond.no.0 c.index-feet-no.result (footprint (path_at c.args.nodes.now c.in-Cond.no.0) c.args.scope.now All) c.index-feet-no.is there.0 in
    rw c.in-Cond.is (same_given c.copy.result c.index-feet-no.result (footprint (path_at c.args.nodes.now c.in-Cond.no.0) c.args.scope.now All) c.copy.ensures same)
