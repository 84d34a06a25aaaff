use Rattle.std.proofs.Common.{◌≡◌, ◌+ℤ◌, ◌∙◌, rules}
use Rattle.band_normal.specs.Bands.{end_at}
use Rattle.itpg_run.specs.Sums.{residue}
use Rattle.itpg_run.proofs.Residues.{four_more}
use Rattle.itpg_run.proofs.sums.with_band.Goals as goal

pub returns : goal.returns
returns c = λ t e.
    let band = c.args.band.now in
    let first : c.with.result ≡ residue (t +ℤ band.from) = search rules in
    let last : c.with-ends.result ≡ residue ((t +ℤ band.from) +ℤ band.to) = search rules in
    let low : c.with_end.result ≡ residue (((t +ℤ band.from) +ℤ band.to) +ℤ end_at band.low band.from) = search rules in
    let high : c.with_end-2.result ≡ residue ((((t +ℤ band.from) +ℤ band.to) +ℤ end_at band.low band.from) +ℤ end_at band.high band.to) = search rules in
    high ∙ four_more t band.from band.to (end_at band.low band.from) (end_at band.high band.to)
