use Rattle.std.proofs.Common.{inl, inr, arith}
use Rattle.std.proofs.lemmas.Int.{ints}
use Rattle.relation_rows.proofs.Going.{none_through}
use Rattle.relation_rows.proofs.latest.is_missed.Goals as goal

pub returns-then-band-span : goal.returns-then-band-span
returns-then-band-span c = λ h t u g. (none_through c.args.zone.now c.args.span.0 c.args.span.1 c.args.band.now c.requires.span (inl (let k = c.if-band-span.true in omega (arith, ints))) t u).1 g

pub returns-then-span-band : goal.returns-then-span-band
returns-then-span-band c = λ h t u g. (none_through c.args.zone.now c.args.span.0 c.args.span.1 c.args.band.now c.requires.span (inr (let k = c.if-span-band.true in omega (arith, ints))) t u).1 g
