use Rattle.std.proofs.Common.{List, [], ◌∷◌, sym, subst, ◌∙◌}
use Rattle.std.proofs.lemmas.List.{length-map}
use Rattle.path_ast.specs.Terms.{path_term}
use Rattle.label_scope.specs.declared.scope.Scope.TheVariants.{All}
use Rattle.plan_cache.specs.Nodes.{PlanNode, IsNodeOf, AreShared, narrowed_member}
use Rattle.plan_cache.specs.Growing.{AddsUnder}
use Rattle.question_costs.specs.declared.count.MemberCount.{MemberCount}
use Rattle.question_costs.specs.Counts.{counts_of}
use Rattle.question_costs.proofs.Appended.{new_right}
use Rattle.question_costs.proofs.Widest.{wide_told}
use Rattle.question_costs.proofs.counting.count_members.Goals as goal

pub count_all-requires : goal.count_all-requires
count_all-requires g c = record { right = new_right c.args.graph.now c.args.max_rows c.new-plans.result c.intern.new.self c.new-plans.ensures.kept c.intern.ensures.kept }

pub returns-clause-root : goal.returns-clause-root
returns-clause-root g c =
    subst (λ (v : List PlanNode). IsNodeOf v c.in_ok-root.root.0 (narrowed_member (path_term c.args.query.now.path) All All)) (sym c.count_all.ensures.nodes) c.in_ok-root.ensures.node

pub returns-clause-only : goal.returns-clause-only
returns-clause-only g c =
    let root = c.in_ok-root.root.0 in
    subst (λ (v : List PlanNode). AddsUnder [] v (root ∷ [])) (sym c.count_all.ensures.nodes)
    (subst (λ (v : List PlanNode). AddsUnder v c.intern.new.self.nodes (root ∷ [])) c.new-plans.ensures.nodes c.in_ok-root.ensures.only)

pub returns-clause-wide : goal.returns-clause-wide
returns-clause-wide g c =
    let root = c.in_ok-root.root.0 in
    let p = path_term c.args.query.now.path in
    let nodes = c.count_all.new.plans.nodes in
    let members = c.in_ok-members.members.items in
    let same = sym c.count_all.ensures.nodes in
    let is = subst (λ (v : List PlanNode). IsNodeOf v root (narrowed_member p All All)) same c.in_ok-root.ensures.node in
    let only = subst (λ (v : List PlanNode). AddsUnder [] v (root ∷ [])) same (subst (λ (v : List PlanNode). AddsUnder v c.intern.new.self.nodes (root ∷ [])) c.new-plans.ensures.nodes c.in_ok-root.ensures.only) in
    wide_told c.args.graph.now c.args.max_rows nodes (counts_of members) (subst AreShared same c.law_of_shared_nodes.ensures.shared) c.in_ok-members.ensures.told
    (length-map members (λ (m : MemberCount). m.count) ∙ c.in_ok-members.ensures.each) root p is only
