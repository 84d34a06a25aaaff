use Rattle.std.proofs.Common.{◌≡◌, ◌<◌, ◌+◌, inl, inr, length, subst, sym, arith}
use Rattle.path_ast.specs.Terms.{path_term}
use Rattle.path_ast.specs.Sizes.{path_size}
use Rattle.plan_cache.specs.declared.nodes.TheConstants.{MAX_NODES}
use Rattle.itpg_session.specs.Machine.{Standing}
use Rattle.itpg_session.specs.Steps.{IsAlike}
use Rattle.plan_cache.specs.Refilled.{KeepsShared}
use Rattle.itpg_session.specs.Keeping.{AddsPath, AreOfWatches}
use Rattle.itpg_session.specs.Planning.{HasWatches}
use Rattle.itpg_session.proofs.Planned.{alike_again}
use Rattle.itpg_session.proofs.Anew.{of_all}
use Rattle.itpg_session.proofs.session.Session.planned.Goals.{then-terms-len+in_ok-renew, else-terms-len}
use Rattle.itpg_session.proofs.session.Session.planned.Goals as goal

pub returns-clause-alike : goal.returns-clause-alike
returns-clause-alike c = elim c.if-terms-len.branch [
  | then-terms-len+in_ok-renew w ↦ alike_again c.args.self.now c.if-terms-len.self c.intern.new.self (subst (IsAlike c.args.self.now) (sym w.self-is) w.in_ok-renew.ensures.alike) c.intern.ensures.alike
  | else-terms-len w ↦ subst (λ (s : Standing). IsAlike s c.intern.new.self) w.self-is c.intern.ensures.alike
]

pub returns-clause-adds : goal.returns-clause-adds
returns-clause-adds c =
    let p = path_term c.args.query.now.path in
    let old = c.args.self.now in
    elim c.if-terms-len.branch [
      | then-terms-len+in_ok-renew w ↦
          let test = w.if-terms-len.true in
          let inside : MAX_NODES < length c.self.inside.plans.nodes + path_size p = omega (arith, test, c.len.ensures.count, c.len.ensures.few, c.terms.ensures) in
          let short = subst (λ (s : Standing). MAX_NODES < length s.table.nodes + path_size p) c.self.view_is inside in
          let anew = subst (λ (s : Standing). AreOfWatches old.machine.watches s.table.nodes) (sym w.self-is) w.in_ok-renew.ensures.anew in
          let has = subst (λ (s : Standing). HasWatches s.table.nodes old.machine.watches) (sym w.self-is) w.in_ok-renew.ensures.has in
          let kept = subst (λ (s : Standing). KeepsShared old.table s.table) (sym w.self-is) w.in_ok-renew.ensures.kept in
          let each = subst (λ (s : Standing). length s.table.kept ≡ length s.table.nodes) (sym w.self-is) w.in_ok-renew.ensures.each in
          inr (of_all p old.machine.watches old.table c.if-terms-len.self.table c.intern.new.self.table short anew has kept each c.intern.ensures.adds c.intern.ensures.free)
      | else-terms-len w ↦ inl (subst (λ (s : Standing). AddsPath p s.table c.intern.new.self.table) w.self-is c.intern.ensures.adds)
    ]
