use Rattle.std.proofs.Common.{◌≡◌, ◌+ℤ◌, ◌∙◌, take, rules}
use Rattle.itpg_run.specs.Sums.{residue, times_value, total}
use Rattle.itpg_run.proofs.Residues.{total_none, times_more, one_more}
use Rattle.itpg_run.proofs.sums.times_sum.Goals as goal

pub loop-row-init : goal.loop-row-init
loop-row-init c = total_none times_value c.args.rows.now

pub loop-row-preserved : goal.loop-row-preserved
loop-row-preserved c =
    let rows = c.args.rows.now in
    let row = c.row-item.result in
    let so_far = total times_value (take c.loop-row.row-index rows) in
    let before : c.loop-row.sum ≡ residue so_far = c.loop-row.invariant in
    let first : c.with.result ≡ residue (so_far +ℤ c.from.result) = search rules in
    let last : c.with-sum.result ≡ residue ((so_far +ℤ c.from.result) +ℤ c.to.result) = search rules in
    last ∙ times_more so_far c.from.result c.to.result row c.from.ensures.value c.to.ensures.value
    ∙ one_more times_value rows c.loop-row.row-index _ row c.loop-row-test.true c.row-item.is
