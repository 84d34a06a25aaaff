use Rattle.std.proofs.Common.{ℕ, ◌≤◌, List, length, ap, refl, sym, ◌∙◌, subst, arith}
use Rattle.plan_cache.specs.Nodes.{Table}
use Rattle.plan_cache.specs.Refilled.{KeepsShared}
use Rattle.standing_queries.specs.Watches.{Watch, most_watches}
use Rattle.itpg_session.specs.PlainWatches.{PlainWatch}
use Rattle.itpg_session.specs.PlainPins.{plain_pins}
use Rattle.itpg_session.specs.PlainFollows.{plain_follows}
use Rattle.itpg_session.specs.Machine.{Machine, Standing}
use Rattle.itpg_session.specs.Steps.{IsAlike}
use Rattle.itpg_session.specs.Keeping.{AreReplanned, IsKeptRight, AreOfWatches}
use Rattle.itpg_session.specs.Planning.{with_plans, HasWatches}
use Rattle.itpg_session.specs.contracts.session.Session.{the_view}
use Rattle.itpg_session.proofs.Plain.{replanned_same, plain_replanned}
use Rattle.itpg_session.proofs.Planned.{plans_of, plans_length, with_plans_alike, made_anew}
use Rattle.itpg_session.proofs.Anew.{of_watches, has_watches, in_range_of, room_for_all}
use Rattle.itpg_session.proofs.session.Session.renew.Goals as goal

pub returns-in_err-numbers-clause-alike : goal.returns-in_err-numbers-clause-alike
returns-in_err-numbers-clause-alike c =
    subst (λ (s : Standing). IsAlike s (the_view (record { graph = c.self.inside.graph; watches = c.self.inside.watches; plans = c.refill.new.self; pins = c.self.inside.pins; follows = c.self.inside.follows; limits = c.self.inside.limits; alloc = c.self.inside.alloc })))
    c.self.view_is (record { machine = refl; limit = refl; watches = replanned_same c.self.inside.watches })

pub invariant_of-self : goal.invariant_of-self
invariant_of-self c = record {
  kept = (subst (λ (t : Table). IsKeptRight c.self.inside.graph c.self.inside.limits t c.self.inside.watches) (sym c.in_err-numbers.ensures.same) c.self.invariant.kept);
  pins_limit = c.self.invariant.pins_limit;
  follows_right = c.self.invariant.follows_right;
}

pub refill-requires-clause-in_range : goal.refill-requires-clause-in_range
refill-requires-clause-in_range c = λ q a. (in_range_of c.queries.result.now c.queries.ensures.each q a).in_range

pub refill-requires-clause-room : goal.refill-requires-clause-room
refill-requires-clause-room c =
    let few = subst (λ (n : ℕ). n ≤ most_watches) c.len-few.ensures.count c.len-few.ensures.few in
    let all = room_for_all c.queries.result.now c.self.inside.watches c.queries.ensures.queries c.queries.ensures.each few in
    omega (arith, all)

pub replan-requires : goal.replan-requires
replan-requires c =
    let plans = plans_of c.refill.new.self.nodes _ c.self.inside.watches c.in_ok-numbers.numbers.items c.queries.ensures.queries c.in_ok-numbers.ensures.numbers in
    ap length c.deref.ensures.value ∙ plans_length c.refill.new.self.nodes c.self.inside.watches c.in_ok-numbers.numbers.items plans

pub invariant_of-self-2 : goal.invariant_of-self-2
invariant_of-self-2 c = record {
  kept = (let plans = plans_of c.refill.new.self.nodes _ c.self.inside.watches c.in_ok-numbers.numbers.items c.queries.ensures.queries c.in_ok-numbers.ensures.numbers in
      let given = c.replan.ensures ∙ ap (λ numbers. with_plans numbers c.self.inside.watches) c.deref.ensures.value in
      subst (λ (ws : List Watch). IsKeptRight c.self.inside.graph c.self.inside.limits c.refill.new.self ws) (sym given)
      (made_anew c.self.inside.graph c.self.inside.limits c.self.inside.plans c.refill.new.self c.self.inside.watches c.in_ok-numbers.numbers.items
      c.in_ok-numbers.ensures.kept c.law_of_shared_nodes.ensures.each plans c.self.invariant.kept));
  pins_limit = c.self.invariant.pins_limit;
  follows_right = c.self.invariant.follows_right;
}

pub returns-clause-room : goal.returns-clause-room
returns-clause-room c =
    let few = subst (λ (n : ℕ). n ≤ most_watches) c.len-few.ensures.count c.len-few.ensures.few in
    let all = room_for_all c.queries.result.now c.self.inside.watches c.queries.ensures.queries c.queries.ensures.each few in
    omega (arith, all, c.in_ok-numbers.ensures.few)

pub returns-clause-anew : goal.returns-clause-anew
returns-clause-anew c =
    let plans = plans_of c.refill.new.self.nodes _ c.self.inside.watches c.in_ok-numbers.numbers.items c.queries.ensures.queries c.in_ok-numbers.ensures.numbers in
    subst (λ (s : Standing). AreOfWatches s.machine.watches c.refill.new.self.nodes) c.self.view_is
    (of_watches c.refill.new.self.nodes c.self.inside.watches c.in_ok-numbers.numbers.items plans c.in_ok-numbers.ensures.only)

pub returns-clause-has : goal.returns-clause-has
returns-clause-has c =
    let plans = plans_of c.refill.new.self.nodes _ c.self.inside.watches c.in_ok-numbers.numbers.items c.queries.ensures.queries c.in_ok-numbers.ensures.numbers in
    subst (λ (s : Standing). HasWatches c.refill.new.self.nodes s.machine.watches) c.self.view_is
    (has_watches c.refill.new.self.nodes c.law_of_shared_nodes.ensures.shared c.self.inside.watches c.in_ok-numbers.numbers.items plans)

pub returns-clause-kept : goal.returns-clause-kept
returns-clause-kept c = subst (λ (s : Standing). KeepsShared s.table c.refill.new.self) c.self.view_is c.in_ok-numbers.ensures.kept

pub returns-clause-alike : goal.returns-clause-alike
returns-clause-alike c =
    let given = c.replan.ensures ∙ ap (λ numbers. with_plans numbers c.self.inside.watches) c.deref.ensures.value in
    let replanned : AreReplanned c.self.inside.watches c.replan.new.watches = subst (AreReplanned c.self.inside.watches) (sym given) (with_plans_alike c.in_ok-numbers.numbers.items c.self.inside.watches) in
    subst (λ (s : Standing). IsAlike s (the_view (record { graph = c.self.inside.graph; watches = c.replan.new.watches; plans = c.refill.new.self; pins = c.self.inside.pins; follows = c.self.inside.follows; limits = c.self.inside.limits; alloc = c.self.inside.alloc })))
    c.self.view_is (record {
      machine = ap (λ (ws : List PlainWatch). let m : Machine = record { graph = c.self.inside.graph; watches = ws; pins = plain_pins c.self.inside.pins.pins; follows = plain_follows c.self.inside.follows } in m) (plain_replanned c.self.inside.watches c.replan.new.watches replanned);
      limit = refl;
      watches = replanned;
    })
