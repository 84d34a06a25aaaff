use Rattle.std.proofs.Common.{◌≡◌, ◌+◌, ◌%◌, ◌^◌, ap, ◌∙◌, w64, to_z-of_z}
use Rattle.std.specs.Int.{cast_unsigned}
use Rattle.itpg_run.proofs.Residues.{residue_more}
use Rattle.itpg_run.proofs.sums.with.Goals as goal

pub returns : goal.returns
returns c = λ t e.
    let bits : c.cast_unsigned.result ≡ cast_unsigned w64 c.args.number = simp (to_z-of_z c.ranges.number) at c.cast_unsigned.ensures in
    ap (λ k. (c.args.sum + k) % 2 ^ 64) bits ∙ residue_more c.args.sum t c.args.number c.ranges.number e
