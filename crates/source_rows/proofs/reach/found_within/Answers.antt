use Rattle.std.proofs.Common.{◌≡◌, ◌==◌, ◌∙◌, suc, ◌+◌, arith, subst, ap}
use Rattle.source_rows.specs.Found.{Found, IsFound}
use Rattle.source_rows.proofs.Finding.{empty_of, found_all, found_more, found_start, found_stands}
use Rattle.source_rows.proofs.reach.found_within.Goals as goal

pub returns-then-is_empty : goal.returns-then-is_empty
returns-then-is_empty c =
    found_all c.args.graph.now c.args.object.0 c.loop-turn.turn c.args.steps c.loop-turn.found c.loop-turn.invariant
    (empty_of c.found-in-loop-turn.inside.fresh.items c.loop-turn.found.fresh c.is_empty.result (c.is_empty.ensures ∙ ap (λ n. n == 0) (c.found-in-loop-turn.inside.fresh.ok.0)) c.if-is_empty.true (ap (λ (f : Found). f.fresh) c.found-in-loop-turn.view_is))
    c.loop-turn.auto.turn-end

pub widen-requires-clause-stand : goal.widen-requires-clause-stand
widen-requires-clause-stand c = found_stands c.args.graph.now c.requires.good c.args.object.0 c.loop-turn.turn c.loop-turn.found c.requires.stands c.loop-turn.invariant

pub loop-turn-preserved : goal.loop-turn-preserved
loop-turn-preserved c =
    let e : suc c.loop-turn.turn ≡ c.loop-turn.turn + 1 = omega arith in
    subst (λ n. IsFound c.args.graph.now c.args.object.0 n c.widen.new.self) e
    (found_more c.args.graph.now c.args.object.0 c.loop-turn.turn c.loop-turn.found c.widen.new.self c.loop-turn.invariant (c.in_ok-widen.ensures))

pub loop-turn-init : goal.loop-turn-init
loop-turn-init c = found_start c.args.graph.now c.args.object.0 c.new-found.result c.add.new.self c.new-found.ensures.seen c.new-found.ensures.fresh (c.in_ok-add.ensures)

pub returns : goal.returns
returns c =
    let e : c.loop-turn.turn ≡ c.args.steps = (let most = c.loop-turn.auto.turn-end in let least = c.loop-turn-test.false in omega (arith, most, least)) in
    subst (λ n. IsFound c.args.graph.now c.args.object.0 n c.loop-turn.found) e c.loop-turn.invariant
