use Rattle.std.proofs.Common.{◌≡◌, ◌↔◌, ℕ, List, Some, subst}
use Rattle.path_ast.specs.Terms.{path_term}
use Rattle.question_costs.specs.declared.count.MemberCount.{MemberCount}
use Rattle.question_costs.specs.declared.site.TheConstants.{USUAL_ROWS}
use Rattle.question_costs.specs.Counts.{counts_of}
use Rattle.question_costs.specs.Needed.{NeedsRows}
use Rattle.question_costs.proofs.RootLemmas.{counts_so, root_has, root_wide, must_have}
use Rattle.question_costs.proofs.site.Site.explain.Goals as goal

pub returns-clause-rows : goal.returns-clause-rows
returns-clause-rows g c = λ begun. (
    let told = c.in_ok-counted.ensures in
    let counted = c.in_ok-counted.counted in
    let p = path_term c.args.query.now.path in
    let part = c.args.self.now.part in
    let limit = c.args.self.now.max_rows in
    root_has part limit p counted.plans.nodes counted.root.0 (counts_of counted.members.items)
    (counts_so part limit p counted.plans.nodes counted.root.0 counted.members.items told.root told.only c.law_of_shared_nodes.ensures.shared told.each told.told)
    c.rows-rows.result c.rows-rows.ensures)

pub returns-clause-wide : goal.returns-clause-wide
returns-clause-wide g c = λ begun none. (
    let told = c.in_ok-counted.ensures in
    let counted = c.in_ok-counted.counted in
    let p = path_term c.args.query.now.path in
    let part = c.args.self.now.part in
    let limit = c.args.self.now.max_rows in
    root_wide part limit p counted.plans.nodes counted.root.0 (counts_of counted.members.items)
    (counts_so part limit p counted.plans.nodes counted.root.0 counted.members.items told.root told.only c.law_of_shared_nodes.ensures.shared told.each told.told)
    c.rows-rows.result c.rows-rows.ensures none)

pub returns-clause-needed : goal.returns-clause-needed
returns-clause-needed g c = λ begun. (
    let told = c.in_ok-counted.ensures in
    let counted = c.in_ok-counted.counted in
    let p = path_term c.args.query.now.path in
    let part = c.args.self.now.part in
    let limit = c.args.self.now.max_rows in
    must_have part limit p counted.plans.nodes counted.root.0 (counts_of counted.members.items)
    (counts_so part limit p counted.plans.nodes counted.root.0 counted.members.items told.root told.only c.law_of_shared_nodes.ensures.shared told.each told.told)
    USUAL_ROWS c.rows_needed-needed.result
    (subst (λ (v : List MemberCount). (n : ℕ) → (c.rows_needed-needed.result ≡ Some n) ↔ NeedsRows USUAL_ROWS (counts_of v) n) c.deref.ensures.value c.rows_needed-needed.ensures))
