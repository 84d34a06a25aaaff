use Rattle.std.proofs.Common.{◌↔◌, ℕ, IfOk, IfSome, List, subst}
use Rattle.itpg_base.specs.Points.{Point}
use Rattle.relation_rows.specs.declared.rows.Row.{Row}
use Rattle.relation_rows.specs.Rows.{Fits, RowsHold}
use Rattle.wide_witness.specs.Along.{IsAlong}
use Rattle.wide_witness.proofs.by_source.source_by_source.Goals as goal

pub returns-clause-made : goal.returns-clause-made
returns-clause-made c =
    subst (λ (v : List Row). IfOk c.from_sources.result (λ o. IfSome o (λ all. (x : Point) → (y : Point) → RowsHold all x y ↔ IsAlong c.args.one.now v c.args.most x y)))
    c.in_ok-onward.ensures c.from_sources.ensures.made

pub returns-clause-fits : goal.returns-clause-fits
returns-clause-fits c =
    subst (λ (v : List Row). IfOk c.from_sources.result (λ o. IfSome o (λ _. (n : ℕ) → Fits (IsAlong c.args.one.now v n) c.args.max_rows)))
    c.in_ok-onward.ensures c.from_sources.ensures.fits
