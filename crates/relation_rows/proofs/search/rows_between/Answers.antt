use Rattle.std.proofs.Common.{ℕ, ◌+◌, List, sym, ◌∙◌, subst, true≢false}
use Rattle.std.specs.Global.{Global}
use Rattle.std.specs.declared.vec.Vec.{Vec}
use Rattle.relation_rows.specs.declared.rows.Row.{Row}
use Rattle.relation_rows.specs.Relations.{IsOneOf}
use Rattle.relation_rows.proofs.Keeping.{KeptSoFar, none_kept, keep_one, leave_one, all_kept}
use Rattle.relation_rows.proofs.search.rows_between.Goals.{then-leads_between+in_ok-push, else-leads_between}
use Rattle.relation_rows.proofs.search.rows_between.Goals as goal

pub loop-row-init : goal.loop-row-init
loop-row-init c =
    let So : ℕ → ℕ → Type 0 = λ o p. IsOneOf c.args.sources.now o × IsOneOf c.args.targets.now p in
    subst (λ (v : List Row). KeptSoFar So c.args.rows.now 0 v) (sym c.new-kept.ensures.items) (none_kept So c.args.rows.now)

pub loop-row-preserved : goal.loop-row-preserved
loop-row-preserved c =
    elim c.if-leads_between.branch [
      | then-leads_between+in_ok-push w ↦
          (let pushed = w.in_ok-push.ensures.items in
          subst (λ (v : Vec Row Global). KeptSoFar (λ (o p : ℕ). IsOneOf c.args.sources.now o × IsOneOf c.args.targets.now p) c.args.rows.now (c.loop-row.row-index + 1) v.items) (sym w.kept-is)
          (keep_one (λ (o p : ℕ). IsOneOf c.args.sources.now o × IsOneOf c.args.targets.now p) c.args.rows.now c.requires.order c.loop-row.row-index _ c.loop-row-test.true c.loop-row.kept.items c.loop-row.invariant _ pushed
          (c.leads_between.ensures.0 w.if-leads_between.true)))
      | else-leads_between w ↦
          subst (λ (v : Vec Row Global). KeptSoFar (λ (o p : ℕ). IsOneOf c.args.sources.now o × IsOneOf c.args.targets.now p) c.args.rows.now (c.loop-row.row-index + 1) v.items) (sym w.kept-is)
          (leave_one (λ (o p : ℕ). IsOneOf c.args.sources.now o × IsOneOf c.args.targets.now p) c.args.rows.now c.requires.order c.loop-row.row-index _ c.loop-row-test.true c.loop-row.kept.items c.loop-row.invariant
          (λ h. true≢false (sym (c.leads_between.ensures.1 h) ∙ w.if-leads_between.false)))
    ]

pub returns : goal.returns
returns c = all_kept (λ (o p : ℕ). IsOneOf c.args.sources.now o × IsOneOf c.args.targets.now p) c.args.rows.now c.loop-row.row-index c.loop-row.kept.items c.loop-row-test.false c.loop-row.invariant
