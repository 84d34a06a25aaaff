use Rattle.std.proofs.Common.{◌≡◌, ℕ, suc, ◌+◌, ◌<◌, ◌≤◌, List, [], ◌∷◌, length, take, slice_get, Some, sym, ap, subst, ◌∙◌, arith}
use Rattle.std.specs.Prelude.{IsSomeAnd}
use Rattle.std.proofs.lemmas.List.{length-append}
use Rattle.itpg_base.proofs.Objects.{there}
use Rattle.plan_cache.specs.declared.operations.PlanNo.{PlanNo}
use Rattle.plan_cache.specs.Nodes.{PlanNode}
use Rattle.plan_cache.specs.Stored.{node_of, MayFollow}
use Rattle.plan_cache.specs.Growing.{Grows}
use Rattle.plan_cache.specs.Former.{IsFormerKey}
use Rattle.plan_cache.proofs.Copied.{AreOwn, one_more_own, made, follows, placed}
use Rattle.plan_cache.proofs.nodes.Nodes.copy.Goals as goal

pub place-requires-clause-follows : goal.place-requires-clause-follows
place-requires-clause-follows c =
    let nodes = c.args.self.now in
    let x = c.loop-number.number in
    let numbers = c.loop-number.numbers.items in
    let key = c.in_ok-key.key in
    let each = c.loop-number.invariant.each in
    let found = subst (λ (v : List PlanNo). IsSomeAnd (slice_get nodes x) (λ n. IsFormerKey nodes v n key)) c.deref.ensures.value c.in_ok-key.ensures in
    let n = there nodes x (λ n. IsFormerKey nodes numbers n key) found in
    subst (λ (v : List PlanNode). MayFollow v key) (sym c.loop-number.invariant.first)
    (follows nodes c.len-number-end.ensures.shared x n.0 n.1 numbers (omega arith) c.loop-number.invariant.own key n.2)

pub loop-number-preserved : goal.loop-number-preserved
loop-number-preserved c =
    let nodes = c.args.self.now in
    let x = c.loop-number.number in
    let numbers = c.loop-number.numbers.items in
    let key = c.in_ok-key.key in
    let each = c.loop-number.invariant.each in
    let new = c.place.new.self in
    let number = c.in_ok-no.no in
    let shared = c.len-number-end.ensures.shared in
    let found = subst (λ (v : List PlanNo). IsSomeAnd (slice_get nodes x) (λ n. IsFormerKey nodes v n key)) c.deref.ensures.value c.in_ok-key.ensures in
    let n = there nodes x (λ n. IsFormerKey nodes numbers n key) found in
    let first = c.loop-number.invariant.first in
    let is = made nodes shared x n.0 n.1 numbers (omega arith) c.loop-number.invariant.own key n.2 in
    let grows = subst (λ (v : List PlanNode). Grows 1 v new) first c.in_ok-no.ensures.grows in
    let at = c.in_ok-no.ensures.placed ∙ ap (λ (v : List PlanNode). Some (node_of v key)) first ∙ ap (λ (v : PlanNode). Some v) is in
    let only = subst (λ (v : List PlanNode). (k : ℕ) → length v ≤ k → k < length new → k ≡ number.0) first c.in_ok-no.ensures.added in
    let next = placed nodes shared x n.0 n.1 new number.0 grows at only in
    let longer = ap length c.in_ok-push.ensures.items in
    let sum = length-append numbers (number ∷ []) in
    let more : suc x ≡ x + 1 = omega arith in
    record {
      first = next.0 ∙ ap (λ (v : ℕ). take v nodes) more;
      each = omega arith;
      own = subst AreOwn (sym c.in_ok-push.ensures.items) (one_more_own numbers number c.loop-number.invariant.own (next.1 ∙ sym each));
    }
