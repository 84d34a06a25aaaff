use Rattle.std.proofs.Common.{◌≡◌, ℕ, Option, Some, sym, ap, subst, ◌∙◌}
use Rattle.std.proofs.lemmas.Bool.{false≢true}
use Rattle.path_ast.specs.Terms.{Repetition}
use Rattle.answer_hints.specs.RuledOut.{IsTooWide, HasRowsWithin}
use Rattle.answer_hints.specs.Repeated.{Repeating}
use Rattle.answer_hints.proofs.GrownTable.{empty_right}
use Rattle.answer_hints.proofs.RepeatedLemmas.{none_between, wide_whole, wide_far, unlike_far}
use Rattle.answer_hints.proofs.repeated.enough_times_of.Goals as goal

pub returns-then-is_exact : goal.returns-then-is_exact
returns-then-is_exact c = none_between c.args.site.now.graph.now c.args.site.now.max_rows c.args.repetition.now (c.is_exact.ensures.0 c.if-is_exact.true)

pub relation_of-requires-clause-right : goal.relation_of-requires-clause-right
relation_of-requires-clause-right c = empty_right c.args.site.now.graph.now c.args.site.now.max_rows c.new-plans.result c.new-plans.ensures.kept

pub returns-in_default : goal.returns-in_default
returns-in_default c =
    let g = c.args.site.now.graph.now in
    let limit = c.args.site.now.max_rows in
    let r = c.args.repetition.now in
    let most : c.repetition.inside.most ≡ r.most = ap (λ (v : Repeating). v.most) c.repetition.view_is in
    wide_whole g limit r (subst (λ (m : Option ℕ). IsTooWide g limit (Repetition r.body r.least m)) most (rw c.in_default.is at c.in_ok-whole.ensures.rows))

pub returns-in_default-2 : goal.returns-in_default-2
returns-in_default-2 c =
    let g = c.args.site.now.graph.now in
    let limit = c.args.site.now.max_rows in
    let r = c.args.repetition.now in
    wide_far g limit r (subst (λ (k : ℕ). IsTooWide g limit (Repetition r.body r.least (Some k))) c.farthest-farthest.ensures (rw c.in_default-2.is at c.in_ok-far.ensures.rows))

pub returns-then-not-same : goal.returns-then-not-same
returns-then-not-same c =
    let g = c.args.site.now.graph.now in
    let limit = c.args.site.now.max_rows in
    let r = c.args.repetition.now in
    let whole = c.in-Some.whole.value in
    let far = c.in-Some-2.far.value in
    let most : c.repetition.inside.most ≡ r.most = ap (λ (v : Repeating). v.most) c.repetition.view_is in
    unlike_far g limit r whole
    (subst (λ (m : Option ℕ). HasRowsWithin g limit (Repetition r.body r.least m) whole) most (rw c.in-Some.is at c.in_ok-whole.ensures.rows))
    far
    (subst (λ (k : ℕ). HasRowsWithin g limit (Repetition r.body r.least (Some k)) far) c.farthest-farthest.ensures (rw c.in-Some-2.is at c.in_ok-far.ensures.rows))
    (λ e. false≢true (sym c.if-not-same.true ∙ c.same.ensures.1 (c.deref.ensures ∙ e ∙ sym c.deref-2.ensures)))
