use Rattle.std.proofs.Common.{refl}
use Rattle.plan_cache.proofs.Former.{former_found, former_none}
use Rattle.plan_cache.proofs.refilling.former_number.Goals as goal

pub returns-in-Some : goal.returns-in-Some
returns-in-Some c =
    former_found c.args.standing.now c.args.nodes.now c.requires.shared c.args.former.now c.args.no.0 c.requires.lower c.requires.former c.requires.also c.in_ok-key.key c.in_ok-key.ensures
    c.in-Some.was.0 c.in-Some.ensures.some

pub returns : goal.returns
returns c =
    former_none c.args.standing.now c.args.nodes.now c.requires.shared c.args.former.now c.args.no.0 c.requires.lower c.requires.former c.requires.also c.in_ok-key.key c.in_ok-key.ensures
    c.requires.few (c.in-None.ensures.none refl)
