use Rattle.std.proofs.Common.{ℕ, List, [], ◌∷◌, length, slice_get, sym, ap, subst, arith}
use Rattle.std.specs.Prelude.{IsSomeAnd}
use Rattle.std.proofs.lemmas.List.{length-append}
use Rattle.plan_cache.specs.declared.operations.PlanNo.{PlanNo}
use Rattle.plan_cache.specs.Former.{IsFormerOf, AreFormer}
use Rattle.plan_cache.proofs.Former.{one_more_former, former_apart}
use Rattle.plan_cache.proofs.refilling.former_numbers.Goals as goal

pub loop-number-preserved : goal.loop-number-preserved
loop-number-preserved c =
    let each = c.loop-number.invariant.each in
    let longer = ap length c.in_ok-push.ensures.items in
    let sum = length-append c.loop-number.former.items (c.in_ok-was.was' ∷ []) in
    let at = subst (λ (k : ℕ). IsSomeAnd (slice_get c.args.nodes.now k) (λ n. IsFormerOf c.args.standing.now n.member c.in_ok-was.was'.0)) (sym each) c.in_ok-was.ensures in
    record {
      each = omega arith;
      former = subst (λ (v : List PlanNo). AreFormer c.args.standing.now c.args.nodes.now v) (sym c.in_ok-push.ensures.items)
          (one_more_former c.args.standing.now c.args.nodes.now c.len-known.ensures.shared c.loop-number.former.items c.in_ok-was.was' c.loop-number.invariant.former at);
    }

pub returns-clause-apart : goal.returns-clause-apart
returns-clause-apart c =
    let each = c.loop-number.invariant.each in
    let end = c.loop-number.auto.number-end in
    let count = c.len-number-end.ensures.count in
    former_apart c.args.standing.now c.args.nodes.now c.len-known.ensures.shared c.len-number-end.ensures.shared c.loop-number.former.items (omega arith) c.loop-number.invariant.former
