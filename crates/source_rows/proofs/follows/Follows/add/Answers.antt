use Rattle.std.proofs.Common.{◌≡◌, ◌<◌, List, [], ◌∷◌, ◌++◌, length, refl, sym, ◌∙◌, ap, subst, rules}
use Rattle.path_ast.specs.Terms.{query_term}
use Rattle.source_rows.specs.Follows.{Follow, new_follow, AreSound, IsFollowed, MayBeFollowed}
use Rattle.source_rows.proofs.FollowLists.{followed_found, sound_more}
use Rattle.source_rows.proofs.follows.Follows.add.Goals as goal

pub returns-then-is_some-clause-taken : goal.returns-then-is_some-clause-taken
returns-then-is_some-clause-taken c = (
  λ e. followed_found c.args.self.now c.args.name c.find.result c.find.ensures.some (sym c.is_some.ensures ∙ c.if-is_some.true),
  λ w. refl,
)

pub invariant_of-self-2 : goal.invariant_of-self-2
invariant_of-self-2 c =
    let items = c.self.inside.items.items in
    let new : Follow = new_follow c.args.name (query_term c.args.query) in
    let pushed : c.push_reserved.new.self.items ≡ items ++ new ∷ [] = c.push_reserved.ensures.items ∙ ap (λ (v : List Follow). v ++ c.new.result ∷ []) c.reserve.ensures.items ∙ ap (λ (f : Follow). items ++ f ∷ []) c.new.ensures in
    let few : length items < 8 = search rules in
    let none = subst (λ (v : List Follow). IsFollowed v c.args.name → ⊥) (sym c.self.view_is) (c.find.ensures.none.0 (sym c.is_some.ensures ∙ c.if-is_some.false)) in
    let asks : MayBeFollowed (query_term c.args.query) = record { in_range = c.requires.in_range; terms = c.requires.terms; ends = c.requires.ends } in
    subst AreSound (sym pushed) (sound_more items new c.self.invariant refl asks none few)

pub returns-clause-taken : goal.returns-clause-taken
returns-clause-taken c = ((λ e. cc), λ h. absurd (c.find.ensures.none.0 (sym c.is_some.ensures ∙ c.if-is_some.false) h))
