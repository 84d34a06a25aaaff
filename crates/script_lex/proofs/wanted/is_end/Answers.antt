use Rattle.std.proofs.Common.{arith}
use Rattle.std.proofs.lemmas.Bool.{eqb-true, eq-eqb}
use Rattle.script_lex.proofs.Places.{blank_end, end_blank}
use Rattle.script_lex.proofs.wanted.is_end.Goals as goal

pub returns : goal.returns
returns c =
    let place = c.skip_blanks.ensures.place in
    let within = c.skip_blanks.ensures.within in (
      λ e. let same = eqb-true _ _ e in blank_end c.args.line.now c.args.at (omega (arith, same, place)),
      λ blank. let end = end_blank c.args.line.now c.args.at blank in eq-eqb _ _ (omega (arith, end, place, within)),
    )
