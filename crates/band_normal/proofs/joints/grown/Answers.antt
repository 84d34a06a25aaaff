use Rattle.std.proofs.Common.{arith}
use Rattle.std.proofs.lemmas.Int.{ints}
use Rattle.band_normal.proofs.joints.grown.Goals as goal

pub led-requires-clause-near : goal.led-requires-clause-near
led-requires-clause-near c = let row = c.requires.row_formed in let to = row.to in let end = row.low c.args.row.to row.span (omega (arith, ints)) in omega (arith, ints)

pub led-requires-clause-next_fits : goal.led-requires-clause-next_fits
led-requires-clause-next_fits c = let strip = c.requires.strip_formed in let end = strip.low c.args.strip.from (omega (arith, ints)) strip.span in omega (arith, ints)

pub led-requires-2-clause-near : goal.led-requires-2-clause-near
led-requires-2-clause-near c = let row = c.requires.row_formed in let to = row.to in let end = row.high c.args.row.to row.span (omega (arith, ints)) in omega (arith, ints)

pub led-requires-2-clause-next_fits : goal.led-requires-2-clause-next_fits
led-requires-2-clause-next_fits c = let strip = c.requires.strip_formed in let end = strip.high c.args.strip.from (omega (arith, ints)) strip.span in omega (arith, ints)
