use Rattle.std.proofs.Common.{ℕ, List, subst}
use Rattle.relation_rows.specs.declared.rows.Row.{Row}
use Rattle.relation_rows.specs.Relations.{IsOneOf}
use Rattle.relation_rows.specs.Searching.{AreKept}
use Rattle.relation_rows.specs.Rows.{NormalRows}
use Rattle.relation_rows.specs.Relations.{IsBetween}
use Rattle.relation_rows.proofs.Keeping.{between_normal, between_relation}
use Rattle.relation_rows.proofs.relations.Relation.restrict.Goals as goal

pub invariant_of-result : goal.invariant_of-result
invariant_of-result c =
    between_relation c.self.inside.rows.items c.in_ok-rows.rows.items c.args.sources.now c.args.targets.now c.self.invariant
    (subst (λ (v : List Row). AreKept (λ (o p : ℕ). IsOneOf c.args.sources.now o × IsOneOf c.args.targets.now p) v c.in_ok-rows.rows.items) c.deref.ensures.value c.in_ok-rows.ensures)

pub returns : goal.returns
returns c =
    subst (λ (v : List Row). NormalRows (IsBetween v c.args.sources.now c.args.targets.now) c.in_ok-rows.rows.items) c.self.view_is
    (between_normal c.self.inside.rows.items c.in_ok-rows.rows.items c.args.sources.now c.args.targets.now c.self.invariant
    (subst (λ (v : List Row). AreKept (λ (o p : ℕ). IsOneOf c.args.sources.now o × IsOneOf c.args.targets.now p) v c.in_ok-rows.rows.items) c.deref.ensures.value c.in_ok-rows.ensures))
