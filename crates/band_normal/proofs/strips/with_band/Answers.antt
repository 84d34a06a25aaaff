use Rattle.std.proofs.Common.{refl, arith, List, [], ◌∷◌, ◌++◌, ◌∙◌, ap}
use Rattle.std.proofs.lemmas.Int.{ints}
use Rattle.band_normal.specs.declared.strips.Ends.{Ends}
use Rattle.band_normal.specs.Strips.{joins, follows}
use Rattle.band_normal.proofs.Stretches.{last_among, not_at_most}
use Rattle.band_normal.proofs.strips.with_band.Goals as goal

pub is_at_most-requires-clause-y_near : goal.is_at_most-requires-clause-y_near
is_at_most-requires-clause-y_near c = (c.requires.runs_near c.in-Some.run' (last_among _ _ _ c.in-Some.ensures.items)).high

pub merge-merged-requires-clause-run_near : goal.merge-merged-requires-clause-run_near
merge-merged-requires-clause-run_near c = c.requires.runs_near c.in-Some.run' (last_among _ _ _ c.in-Some.ensures.items)

pub merge-merged-requires-clause-lower : goal.merge-merged-requires-clause-lower
merge-merged-requires-clause-lower c = c.requires.lower c.in-Some.run' (last_among _ _ _ c.in-Some.ensures.items)

pub while_ordered-apart-requires-clause-x_near : goal.while_ordered-apart-requires-clause-x_near
while_ordered-apart-requires-clause-x_near c = (c.requires.runs_near c.in-Some.run' (last_among _ _ _ c.in-Some.ensures.items)).high

pub while_ordered-apart-requires-clause-ordered : goal.while_ordered-apart-requires-clause-ordered
while_ordered-apart-requires-clause-ordered c = let less = not_at_most _ _ c.if-is_at_most.ensures in omega (arith, ints)

pub returns-in_ok-push-in-Some : goal.returns-in_ok-push-in-Some
returns-in_ok-push-in-Some c = joins _ c.in-Some.run' c.merge-merged.result c.in-Some.ensures.items c.in_ok-push-in-Some.ensures.items refl c.merge-merged.ensures

pub returns-in_ok-push-in-Some-3 : goal.returns-in_ok-push-in-Some-3
returns-in_ok-push-in-Some-3 c = follows _ c.in-Some.run' c.in-Some.ensures.items
    (c.in_ok-push-in-Some-3.ensures.items ∙ ap (λ (v : List Ends). v ++ c.args.band ∷ []) c.in_ok-push-in-Some-2.ensures.items) c.while_ordered-apart.ensures.front c.while_ordered-apart.ensures.ordered
