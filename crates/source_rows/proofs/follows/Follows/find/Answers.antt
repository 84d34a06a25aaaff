use Rattle.std.proofs.Common.{◌≡◌, List, sym, ◌∙◌, subst, true≢false}
use Rattle.std.specs.Prelude.{IsSomeAnd, slice_get}
use Rattle.source_rows.specs.Follows.{Follow, IsOnlyPlace}
use Rattle.source_rows.proofs.FollowLists.{not_more, found_here, only_here, followed_some}
use Rattle.source_rows.proofs.follows.Follows.find.Goals as goal

pub returns-then-has_name-clause-none : goal.returns-then-has_name-clause-none
returns-then-has_name-clause-none c =
    let name = c.args.name.now in
    let i = c.loop-place.place in
    let found = found_here c.deref-follow-items.result.now name i c.follow-item.result c.loop-place-test.true c.follow-item.is (c.has_name.ensures.0 c.if-has_name.true) in
    let is : c.deref-follow-items.result.now ≡ c.args.self.now = c.deref-follow-items.ensures.value ∙ c.self.view_is in
    let here : IsSomeAnd (slice_get c.args.self.now i) (λ f. f.name ≡ name) = subst (λ (fs : List Follow). IsSomeAnd (slice_get fs i) (λ f. f.name ≡ name)) is found in
    (λ h. absurd (true≢false h), λ none. absurd (none (followed_some c.args.self.now i name here)))

pub returns-then-has_name-clause-only : goal.returns-then-has_name-clause-only
returns-then-has_name-clause-only c =
    let name = c.args.name.now in
    let i = c.loop-place.place in
    let found = found_here c.deref-follow-items.result.now name i c.follow-item.result c.loop-place-test.true c.follow-item.is (c.has_name.ensures.0 c.if-has_name.true) in
    let here : IsSomeAnd (slice_get c.self.inside.items.items i) (λ f. f.name ≡ name) = subst (λ (fs : List Follow). IsSomeAnd (slice_get fs i) (λ f. f.name ≡ name)) c.deref-follow-items.ensures.value found in
    subst (λ (v : List Follow). IsOnlyPlace v name i) c.self.view_is (only_here c.self.inside.items.items i name here c.self.invariant.differ)

pub loop-place-preserved : goal.loop-place-preserved
loop-place-preserved c = λ k a e. not_more c.deref-follow-items.result.now c.args.name.now c.loop-place.place c.follow-item.result c.loop-place-test.true c.follow-item.is c.loop-place.invariant
    (λ same. true≢false (sym (c.has_name.ensures.1 same) ∙ c.if-has_name.false)) k a e
