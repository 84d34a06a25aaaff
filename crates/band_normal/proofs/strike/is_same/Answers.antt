use Rattle.std.proofs.Common.{◌≡◌, arith}
use Rattle.std.proofs.lemmas.Int.{ints}
use Rattle.band_normal.proofs.StrikeLemmas.{band_same, same_band}
use Rattle.band_normal.proofs.strike.is_same.Goals as goal

pub returns : goal.returns
returns c =
    let a = c.if-row-other.false in
    let b = c.if-row-other-2.false in
    let from : c.args.row.from ≡ c.args.other.from = omega (arith, ints) in
    let to : c.args.row.to ≡ c.args.other.to = omega (arith, ints) in
    let same = c.have_same_ends.ensures in
    (λ h. band_same c.args.row c.args.other from to (same.0 h), λ e. same.1 (same_band c.args.row c.args.other e))
