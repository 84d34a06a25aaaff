use Rattle.std.proofs.lemmas.Bool.Decides.{Decides-eqb}
use Rattle.wide_witness.proofs.Appending.{source_had}
use Rattle.wide_witness.proofs.by_source.is_source_had.Goals as goal

pub returns-then-i-gt0 : goal.returns-then-i-gt0
returns-then-i-gt0 c =
    let had = source_had c.args.rows.now c.requires.order c.args.i c.args.row.now _ c.requires.place c.if-i-gt0.true in
    let same = Decides-eqb _ c.args.row.now.source.0 in
    (λ h. had.0 (same.0 h), λ h. same.1 (had.1 h))
