use Rattle.std.proofs.Common.{◌≡◌, List, ◌∙◌, ◌+◌, length, take, sym, ap, subst, arith}
use Rattle.plan_cache.specs.Nodes.{Kept}
use Rattle.plan_cache.specs.KeptRows.{AddsFree}
use Rattle.plan_cache.specs.Shelves.{Shelved}
use Rattle.plan_cache.proofs.Footing.{children_there, begins_so, goes_on, on_err}
use Rattle.plan_cache.proofs.Free.{one_more_free, one_longer}
use Rattle.plan_cache.proofs.feet.add_places.Goals as goal

pub foot_of-requires-clause-children : goal.foot_of-requires-clause-children
foot_of-requires-clause-children c =
    let low = c.loop-number-test.true in
    let end = c.loop-number.auto.number-end in
    let many = c.len-count.ensures.count in
    children_there c.args.nodes.now c.feet.result.now c.loop-number.number c.len-count.ensures.shared (omega arith) (c.feet.ensures ∙ c.loop-number.invariant.feet)

pub returns-in_err-foot-clause-first : goal.returns-in_err-foot-clause-first
returns-in_err-foot-clause-first c =
    on_err c.from_residual.result (take (length c.args.shelf.now.feet) c.loop-number.shelf.feet ≡ c.args.shelf.now.feet)
    (begins_so c.args.nodes.now c.args.shelf.now.feet c.loop-number.shelf.feet c.loop-number.number c.requires.feet c.loop-number.invariant.begun c.loop-number.invariant.feet)

pub returns-in_err-push-clause-first : goal.returns-in_err-push-clause-first
returns-in_err-push-clause-first c =
    let same = ap (λ (s : Shelved). s.feet) c.in_err-push.ensures.same in
    on_err c.from_residual-in_err-push.result (take (length c.args.shelf.now.feet) c.push.new.self.feet ≡ c.args.shelf.now.feet)
    (begins_so c.args.nodes.now c.args.shelf.now.feet c.push.new.self.feet c.loop-number.number c.requires.feet c.loop-number.invariant.begun (same ∙ c.loop-number.invariant.feet))

pub loop-number-preserved : goal.loop-number-preserved
loop-number-preserved c =
    record {
      feet = c.in_ok-push.ensures.feet ∙ goes_on c.args.nodes.now c.loop-number.shelf.feet c.loop-number.number (c.loop-number.number + 1) c.in_ok-foot.foot (omega arith) c.loop-number.invariant.feet c.in_ok-foot.ensures;
      begun = (let l = c.loop-number.invariant.begun in omega arith);
      each = one_longer c.loop-number.shelf.kept c.push.new.self.kept c.loop-number.shelf.feet c.push.new.self.feet c.in_ok-foot.foot c.loop-number.invariant.each c.in_ok-push.ensures.kept c.in_ok-push.ensures.feet;
      free = subst (λ (v : List Kept). AddsFree c.args.shelf.now.kept v) (sym c.in_ok-push.ensures.kept) (one_more_free c.args.shelf.now.kept c.loop-number.shelf.kept c.loop-number.invariant.free);
    }
