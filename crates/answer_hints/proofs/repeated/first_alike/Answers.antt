use Rattle.std.proofs.Common.{◌≡◌, ◌<◌, ◌≤◌, Some, sym, ap, subst, ◌∙◌, arith}
use Rattle.std.proofs.lemmas.Bool.{false≢true}
use Rattle.answer_hints.specs.Repeated.{Repeating, farthest}
use Rattle.answer_hints.proofs.RepeatedLemmas.{AreTried, least_within, wide_at, unlike_at, alike_at, at_farthest}
use Rattle.answer_hints.proofs.repeated.first_alike.Goals as goal

pub returns-in_default : goal.returns-in_default
returns-in_default c =
    let r = c.args.repetition.now in
    let k = c.loop-times.times in
    let least : c.repetition.inside.least ≡ r.least = ap (λ (v : Repeating). v.least) c.repetition.view_is in
    let from : r.least ≤ k = omega arith in
    wide_at c.args.site.now.graph.now c.args.site.now.max_rows r k from c.loop-times.invariant.tried (rw c.in_default.is at c.in_ok-relation.ensures.rows)

pub returns-then-same : goal.returns-then-same
returns-then-same c =
    let r = c.args.repetition.now in
    let k = c.loop-times.times in
    let least : c.repetition.inside.least ≡ r.least = ap (λ (v : Repeating). v.least) c.repetition.view_is in
    let from : r.least ≤ k = omega arith in
    let end = c.farthest-farthest.ensures in
    let less : k < farthest r = omega arith in
    alike_at c.args.site.now.graph.now c.args.site.now.max_rows r c.args.whole.now c.requires.whole c.requires.far k c.in-Some.relation.value from less
    c.loop-times.invariant.tried (rw c.in-Some.is at c.in_ok-relation.ensures.rows) (sym c.deref.ensures ∙ c.same.ensures.0 c.if-same.true)

pub loop-times-preserved : goal.loop-times-preserved
loop-times-preserved c =
    let r = c.args.repetition.now in
    let k = c.loop-times.times in
    let least : c.repetition.inside.least ≡ r.least = ap (λ (v : Repeating). v.least) c.repetition.view_is in
    let from : r.least ≤ k = omega arith in
    let few = c.loop-times.invariant.few in
    let more = c.in_ok-relation.ensures.few in
    record {
      right = c.in_ok-relation.ensures.right;
      few = omega arith;
      tried = unlike_at c.args.site.now.graph.now c.args.site.now.max_rows r c.args.whole.now c.requires.whole c.requires.far k c.in-Some.relation.value
          c.loop-times.invariant.tried (rw c.in-Some.is at c.in_ok-relation.ensures.rows)
          (λ e. false≢true (sym c.if-same.false ∙ c.same.ensures.1 (c.deref.ensures ∙ e)));
    }

pub returns : goal.returns
returns c =
    let r = c.args.repetition.now in
    let least : c.repetition.inside.least ≡ r.least = ap (λ (v : Repeating). v.least) c.repetition.view_is in
    let most : c.repetition.inside.most ≡ r.most = ap (λ (v : Repeating). v.most) c.repetition.view_is in
    let from = least_within r c.requires.in_range in
    let end = c.farthest-farthest.ensures in
    let there : c.loop-times.times ≡ farthest r = omega arith in
    at_farthest c.args.site.now.graph.now c.args.site.now.max_rows r c.args.whole.now c.requires.whole c.requires.far from
    (subst (AreTried c.args.site.now.graph.now c.args.site.now.max_rows r) there c.loop-times.invariant.tried) c.below.result
    (λ is. c.below.ensures.at (most ∙ is ∙ ap Some (sym end)))
    (λ other. c.below.ensures.other (λ is. other (sym most ∙ is ∙ ap Some end)) ∙ ap Some end)
