use Rattle.std.proofs.Common.{List, refl, sym, ◌∙◌, ap, subst, true≢false, rules}
use Rattle.standing_queries.specs.declared.kept.Kept.{Kept}
use Rattle.standing_queries.specs.Stores.{watches_of, AreStored}
use Rattle.standing_queries.proofs.Keeping.{not_more, found_here, only_here, watched_some, nowhere}
use Rattle.standing_queries.proofs.watches.Watches.find.Goals as goal

pub returns-then-eq-clause-some : goal.returns-then-eq-clause-some
returns-then-eq-clause-some c =
    let is = c.deref-kept-items.ensures.value in
    found_here c.self.inside.queries.items c.deref-kept-items.result.now c.args.self.now (ap (watches_of c.self.inside.queries.items) is ∙ c.self.view_is)
    (subst (λ (ks : List Kept). AreStored c.self.inside.queries.items ks) (sym is) c.self.invariant)
    c.args.name.now c.loop-place.place c.kept-item.result c.loop-place-test.true c.kept-item.is (sym c.eq.ensures ∙ c.if-eq.true)

pub returns-then-eq-clause-only : goal.returns-then-eq-clause-only
returns-then-eq-clause-only c =
    let is = c.deref-kept-items.ensures.value in
    let view = ap (watches_of c.self.inside.queries.items) is ∙ c.self.view_is in
    let stored = subst (λ (ks : List Kept). AreStored c.self.inside.queries.items ks) (sym is) c.self.invariant in
    only_here c.self.inside.queries.items c.deref-kept-items.result.now c.args.self.now view stored c.args.name.now c.loop-place.place
    (found_here c.self.inside.queries.items c.deref-kept-items.result.now c.args.self.now view stored
    c.args.name.now c.loop-place.place c.kept-item.result c.loop-place-test.true c.kept-item.is (sym c.eq.ensures ∙ c.if-eq.true))

pub returns-then-eq-clause-none : goal.returns-then-eq-clause-none
returns-then-eq-clause-none c =
    let is = c.deref-kept-items.ensures.value in
    let found = found_here c.self.inside.queries.items c.deref-kept-items.result.now c.args.self.now (ap (watches_of c.self.inside.queries.items) is ∙ c.self.view_is)
    (subst (λ (ks : List Kept). AreStored c.self.inside.queries.items ks) (sym is) c.self.invariant)
    c.args.name.now c.loop-place.place c.kept-item.result c.loop-place-test.true c.kept-item.is (sym c.eq.ensures ∙ c.if-eq.true) in
    (λ h. absurd (true≢false h), λ none. absurd (none (watched_some c.args.self.now c.loop-place.place c.args.name.now found)))

pub loop-place-preserved : goal.loop-place-preserved
loop-place-preserved c = λ k a e. not_more c.deref-kept-items.result.now c.args.name.now c.loop-place.place c.kept-item.result c.loop-place-test.true c.kept-item.is c.loop-place.invariant (sym c.eq.ensures ∙ c.if-eq.false) k a e

pub returns-clause-none : goal.returns-clause-none
returns-clause-none c =
    let is = c.deref-kept-items.ensures.value in (
      λ h. nowhere c.self.inside.queries.items c.deref-kept-items.result.now c.args.self.now (ap (watches_of c.self.inside.queries.items) is ∙ c.self.view_is)
          (subst (λ (ks : List Kept). AreStored c.self.inside.queries.items ks) (sym is) c.self.invariant)
          c.args.name.now c.loop-place.place (search rules) c.loop-place.invariant,
      λ h. refl,
    )
