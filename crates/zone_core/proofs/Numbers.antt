-- Sets of lemmas for `omega`: signed numbers, and with them the greater and the lesser of two.
use Rattle.std.proofs.Common.{arith}
use Rattle.std.proofs.lemmas.Int.{ints, clamps}

pub ruleset signed = (arith, ints)

pub ruleset extremes = (arith, ints, clamps)
