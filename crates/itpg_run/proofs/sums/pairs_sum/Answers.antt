use Rattle.std.proofs.Common.{◌∙◌, take, refl}
use Rattle.itpg_run.specs.Sums.{pair_value, total}
use Rattle.itpg_run.proofs.Residues.{total_none, one_more}
use Rattle.itpg_run.proofs.sums.pairs_sum.Goals as goal

pub loop-row-init : goal.loop-row-init
loop-row-init c = total_none pair_value c.args.rows.now

pub loop-row-preserved : goal.loop-row-preserved
loop-row-preserved c =
    let rows = c.args.rows.now in
    c.with_band-sum.ensures (total pair_value (take c.loop-row.row-index rows)) c.loop-row.invariant
    ∙ one_more pair_value rows c.loop-row.row-index _ _ c.loop-row-test.true refl
