use Rattle.std.proofs.Common.{◌≡◌, ◌<◌, ◌+◌, [], inl, inr, length, sym, subst, arith}
use Rattle.path_ast.specs.Terms.{path_term}
use Rattle.path_ast.specs.Sizes.{path_size}
use Rattle.plan_cache.specs.Nodes.{Table}
use Rattle.plan_cache.specs.declared.nodes.TheConstants.{MAX_NODES}
use Rattle.plan_cache.specs.RightRows.{IsTableRight}
use Rattle.itpg_session.specs.Keeping.{AddsPath}
use Rattle.itpg_session.proofs.Adding.{adds_path}
use Rattle.itpg_session.proofs.Anew.{emptied, empty_right}
use Rattle.itpg_session.proofs.Planned.{table_grown}
use Rattle.itpg_session.proofs.planning.planned_alone.Goals.{then-terms-len, else-terms-len}
use Rattle.itpg_session.proofs.planning.planned_alone.Goals as goal

pub returns-clause-adds : goal.returns-clause-adds
returns-clause-adds c =
    let p = path_term c.args.query.now.path in
    let mid = c.if-terms-len.plans in
    let adds = adds_path p mid c.intern.new.self c.intern.result c.intern.ensures.node c.intern.ensures.only c.intern.ensures.grows c.intern.ensures.kept c.intern.ensures.same in
    elim c.if-terms-len.branch [
      | then-terms-len w ↦
          let test = w.if-terms-len.true in
          let short : MAX_NODES < length c.args.plans.now.nodes + path_size p = omega (arith, test, c.len.ensures.count, c.len.ensures.few, c.terms.ensures) in
          let nodes : mid.nodes ≡ [] = subst (λ (t : Table). t.nodes ≡ []) (sym w.plans-is) w.new.ensures.nodes in
          let kept : mid.kept ≡ [] = subst (λ (t : Table). t.kept ≡ []) (sym w.plans-is) w.new.ensures.kept in
          inr (emptied p c.args.plans.now mid c.intern.new.self short nodes kept adds c.intern.ensures.kept)
      | else-terms-len w ↦ inl (subst (λ (t : Table). AddsPath p t c.intern.new.self) w.plans-is adds)
    ]

pub returns-clause-right : goal.returns-clause-right
returns-clause-right c = λ g limit right.
    let p = path_term c.args.query.now.path in
    let mid = c.if-terms-len.plans in
    let there : IsTableRight g limit mid = elim c.if-terms-len.branch [
      | then-terms-len w ↦ empty_right g limit mid (subst (λ (t : Table). t.kept ≡ []) (sym w.plans-is) w.new.ensures.kept)
      | else-terms-len w ↦ subst (IsTableRight g limit) (sym w.plans-is) right
    ] in
    table_grown g limit (path_size p) mid c.intern.new.self c.intern.ensures.grows c.intern.ensures.kept there
