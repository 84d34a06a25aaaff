use Rattle.std.proofs.Common.{◌≡◌, ◌<◌, List, [], ◌∷◌, ◌++◌, length, refl, sym, ◌∙◌, ap, subst, rules}
use Rattle.plan_cache.specs.RightRows.{IsTableRight}
use Rattle.itpg_pins.specs.Pins.{Held, Pinned, held, AreSound, IsHeld}
use Rattle.itpg_pins.proofs.Keeping.{pinned_found, sound_more}
use Rattle.itpg_pins.proofs.pins.Pins.add.Goals as goal

pub returns-then-is_some-clause-taken : goal.returns-then-is_some-clause-taken
returns-then-is_some-clause-taken c = (
  λ e. pinned_found c.args.self.now.pins c.args.name c.find.result c.find.ensures.some (sym c.is_some.ensures ∙ c.if-is_some.true),
  λ w. refl,
)

pub invariant_of-self-2 : goal.invariant_of-self-2
invariant_of-self-2 c =
    let items = c.self.inside.items.items in
    let new : Held = held c.args.name c.args.graph.now c.args.plans.now in
    let pushed : c.push_reserved.new.self.items ≡ items ++ new ∷ [] = c.push_reserved.ensures.items ∙ ap (λ (v : List Held). v ++ c.in_ok-pin.pin ∷ []) c.reserve.ensures.items ∙ ap (λ (p : Held). items ++ p ∷ []) c.in_ok-pin.ensures in
    let few : length items < 8 = search rules in
    let right = subst (λ (v : Pinned). IsTableRight c.args.graph.now v.limit c.args.plans.now) (sym c.self.view_is) c.requires in
    let none = subst (λ (v : Pinned). IsHeld v.pins c.args.name → ⊥) (sym c.self.view_is) (c.find.ensures.none.0 (sym c.is_some.ensures ∙ c.if-is_some.false)) in
    subst (AreSound c.self.inside.max_rows) (sym pushed) (sound_more c.self.inside.max_rows items new c.self.invariant right none few)

pub returns-clause-taken : goal.returns-clause-taken
returns-clause-taken c = ((λ e. cc), λ h. absurd (c.find.ensures.none.0 (sym c.is_some.ensures ∙ c.if-is_some.false) h))
