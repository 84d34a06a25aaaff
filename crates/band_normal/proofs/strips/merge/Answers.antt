use Rattle.std.proofs.Common.{refl, inl, inr, arith}
use Rattle.std.proofs.lemmas.Int.{ints}
use Rattle.band_normal.proofs.Stretches.{one_run, self_ordered, not_at_most}
use Rattle.band_normal.proofs.strips.merge.Goals as goal

pub while_ordered-requires-else-is_at_most-clause-ordered : goal.while_ordered-requires-else-is_at_most-clause-ordered
while_ordered-requires-else-is_at_most-clause-ordered c = let less = not_at_most _ _ c.if-is_at_most.ensures in omega (arith, ints)

pub returns-then-is_at_most : goal.returns-then-is_at_most
returns-then-is_at_most c = one_run c.args.run c.args.band _ _ _ (record { ends = c.args.run; along = c.while_ordered.result })
    c.while_ordered-touching.ensures.front c.while_ordered-touching.ensures.ordered c.while_ordered-along.ensures.front c.while_ordered-along.ensures.ordered c.while_ordered.ensures.front refl (self_ordered _ _) c.while_ordered.ensures.ordered (inl refl)

pub returns-else-is_at_most : goal.returns-else-is_at_most
returns-else-is_at_most c = one_run c.args.run c.args.band _ _ _ (record { ends = record { low = c.args.run.low; high = c.args.band.high }; along = c.while_ordered-else-is_at_most.result })
    c.while_ordered-touching.ensures.front c.while_ordered-touching.ensures.ordered c.while_ordered-along.ensures.front c.while_ordered-along.ensures.ordered c.while_ordered-else-is_at_most.ensures.front refl c.while_ordered-else-is_at_most.ensures.ordered (self_ordered _ _) (inr refl)
