use Rattle.std.proofs.Common.{◌≡◌, ◌≢◌, map, length, sym, ◌∙◌}
use Rattle.std.proofs.lemmas.Bool.{eqb-true, eqb-false}
use Rattle.itpg_session.specs.Ticks.{ticked_of, stays_wide}
use Rattle.itpg_session.proofs.TickSteps.{map_length, any_of, seen_quiet, seen_refused, seen_answered}
use Rattle.itpg_session.proofs.reply.seen_of.Goals as goal

pub returns-then-is_empty : goal.returns-then-is_empty
returns-then-is_empty c = λ form g.
    let none : length c.args.found.now ≡ 0 = eqb-true (length c.args.found.now) 0 (sym c.is_empty.ensures ∙ c.if-is_empty.true) in
    seen_quiet form g (map ticked_of c.args.found.now) (map_length ticked_of c.args.found.now ∙ none)

pub returns-then-is_some_wide : goal.returns-then-is_some_wide
returns-then-is_some_wide c = λ form g.
    seen_refused form g (map ticked_of c.args.found.now) (any_of stays_wide ticked_of c.args.found.now ∙ sym c.is_some_wide.ensures ∙ c.if-is_some_wide.true)

pub returns : goal.returns
returns c = λ form g.
    let some : length c.args.found.now ≢ 0 = eqb-false (length c.args.found.now) 0 (sym c.is_empty.ensures ∙ c.if-is_empty.false) in
    seen_answered form g (map ticked_of c.args.found.now) (λ none. some (sym (map_length ticked_of c.args.found.now) ∙ none)) (any_of stays_wide ticked_of c.args.found.now ∙ sym c.is_some_wide.ensures ∙ c.if-is_some_wide.false)
