use Rattle.std.proofs.Common.{◌++◌, ◌∷◌, [], Some, true, true≢false, refl}
use Rattle.path_eval.proofs.Filled.{parts_made, still_well, one_filled, all_filled, if_ok_both}
use Rattle.path_eval.proofs.evaluation.worked_out.Goals as goal

pub one-requires-clause-parts : goal.one-requires-clause-parts
one-requires-clause-parts c =
    let on = c.args.ground.now in
    let old = c.args.plans.now in
    let no = c.args.no.0 in
    parts_made on old c.below.ensures.shared no no c.below.new.plans c.in_ok-made.made c.in_ok-made.ensures.filled c.requires.there ([], refl)

pub returns-clause-well : goal.returns-clause-well
returns-clause-well c =
    let on = c.args.ground.now in
    let old = c.args.plans.now in
    let no = c.args.no.0 in
    still_well on old c.below.ensures.shared no no true c.below.new.plans c.one.new.plans c.below.ensures.well (λ _. ([], refl)) c.one.ensures.nodes c.one.ensures.keeps (λ e. absurd (true≢false e))

pub returns-clause-keeps : goal.returns-clause-keeps
returns-clause-keeps c =
    let on = c.args.ground.now in
    let old = c.args.plans.now in
    let no = c.args.no.0 in
    let made = c.in_ok-made.made in
    let shared = c.below.ensures.shared in
    if_ok_both _ _ _ c.one.result
    (λ r right room. all_filled on old shared no c.one.new.plans (made ++ Some r.value ∷ [])
    (one_filled on old shared no no true c.below.new.plans c.one.new.plans made (Some r.value) c.in_ok-made.ensures.filled (λ _. ([], refl)) (λ _. refl) c.one.ensures.nodes c.one.ensures.keeps (λ e. absurd (true≢false e))
    (λ _. right) (λ _. room)))
    c.one.ensures.rows c.one.ensures.room
