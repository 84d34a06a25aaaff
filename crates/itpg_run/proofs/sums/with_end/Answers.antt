use Rattle.std.proofs.Common.{◌≡◌, ◌+ℤ◌, ◌∙◌, rules}
use Rattle.itpg_run.specs.Sums.{residue}
use Rattle.itpg_run.proofs.Residues.{moved}
use Rattle.itpg_run.proofs.sums.with_end.Goals as goal

pub returns-in-Moving : goal.returns-in-Moving
returns-in-Moving c = λ t e.
    let departs : c.with-in-Moving.result ≡ residue (t +ℤ c.args.departure) = search rules in
    let moves : c.with-in-Moving-2.result ≡ residue ((t +ℤ c.args.departure) +ℤ c.in-Moving.moments) = search rules in
    moves ∙ moved t c.args.departure c.in-Moving.moments c.args.end c.in-Moving.is
