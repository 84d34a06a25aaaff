use Rattle.std.proofs.Common.{◌≡◌, ◌<◌, List, [], ◌∷◌, ◌++◌, None, false, length, refl, sym, ◌∙◌, ap, subst, arith, rules}
use Rattle.path_ast.specs.declared.ast.Query.{Query}
use Rattle.standing_queries.specs.declared.kept.Kept.{Kept}
use Rattle.path_ast.specs.Terms.{query_term}
use Rattle.standing_queries.specs.Watches.{MayBeWatched}
use Rattle.standing_queries.specs.Stores.{watches_of, AreStored}
use Rattle.standing_queries.proofs.Keeping.{watched_found, as_many, pushed, pushed_stored}
use Rattle.standing_queries.proofs.watches.Watches.add.Goals as goal

pub returns-then-is_some-clause-taken : goal.returns-then-is_some-clause-taken
returns-then-is_some-clause-taken c = (
  λ e. watched_found c.args.self.now c.args.name c.find.result c.find.ensures.some (sym c.is_some.ensures ∙ c.if-is_some.true),
  λ w. refl,
)

pub invariant_of-self-2 : goal.invariant_of-self-2
invariant_of-self-2 c =
    let kept : Kept = record { name = c.args.name; plan = c.args.plan; foot = c.args.foot; base = c.in_ok-base.base; now = None; settled = false } in
    let first : c.push_reserved.new.self.items ≡ c.self.inside.queries.items ++ c.args.query ∷ [] =
    c.push_reserved.ensures.items ∙ ap (λ (v : List Query). v ++ c.args.query ∷ []) c.reserve.ensures.items in
    let second : c.push_reserved-2.new.self.items ≡ c.self.inside.items.items ++ kept ∷ [] = c.push_reserved-2.ensures.items ∙ ap (λ (v : List Kept). v ++ kept ∷ []) c.reserve-2.ensures.items in
    let less : c.len.result < 32 = search rules in
    let many = as_many c.self.inside.queries.items c.self.inside.items.items c.args.self.now c.self.view_is c.self.invariant in
    let count = c.len.ensures.count in
    let few : length c.self.inside.items.items < 32 = omega arith in
    let asks : MayBeWatched (query_term c.args.query) = record { in_range = c.requires.in_range; terms = c.requires.terms; ends = c.requires.ends } in
    subst (λ (v : List Query). AreStored v c.push_reserved-2.new.self.items) (sym first)
    (subst (AreStored (c.self.inside.queries.items ++ c.args.query ∷ [])) (sym second)
    (pushed_stored c.self.inside.queries.items c.self.inside.items.items c.args.self.now c.self.view_is c.self.invariant c.args.query kept c.in_ok-base.ensures refl refl asks (c.find.ensures.none.0 (sym c.is_some.ensures ∙ c.if-is_some.false)) few))

pub returns-clause-added : goal.returns-clause-added
returns-clause-added c =
    let kept : Kept = record { name = c.args.name; plan = c.args.plan; foot = c.args.foot; base = c.in_ok-base.base; now = None; settled = false } in
    let first : c.push_reserved.new.self.items ≡ c.self.inside.queries.items ++ c.args.query ∷ [] =
    c.push_reserved.ensures.items ∙ ap (λ (v : List Query). v ++ c.args.query ∷ []) c.reserve.ensures.items in
    let second : c.push_reserved-2.new.self.items ≡ c.self.inside.items.items ++ kept ∷ [] = c.push_reserved-2.ensures.items ∙ ap (λ (v : List Kept). v ++ kept ∷ []) c.reserve-2.ensures.items in
    ap (λ (v : List Query). watches_of v c.push_reserved-2.new.self.items) first
    ∙ ap (watches_of (c.self.inside.queries.items ++ c.args.query ∷ [])) second
    ∙ pushed c.self.inside.queries.items c.self.inside.items.items c.args.self.now c.self.view_is c.self.invariant c.args.query kept c.in_ok-base.ensures refl refl
