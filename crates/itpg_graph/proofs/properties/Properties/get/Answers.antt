use Rattle.std.proofs.Common.{ℤ, ◌≡◌, ◌∙◌, List, Some, ap, length, refl, sym, subst}
use Rattle.std.specs.Prelude.{slice_get}
use Rattle.std.proofs.lemmas.Option.{slice_get_read}
use Rattle.itpg_base.specs.Words.{Word}
use Rattle.itpg_base.specs.Graphs.{Property, PropertiesHave}
use Rattle.interval_set.specs.Runs.{AreRunsOf}
use Rattle.itpg_graph.specs.Tables.{IsPlace}
use Rattle.itpg_graph.proofs.Parts.{place_named, found_runs, found_value, missing_values}
use Rattle.itpg_graph.proofs.properties.Properties.get.Goals as goal

pub returns-in-Err-clause-none : goal.returns-in-Err-clause-none
returns-in-Err-clause-none c = (λ none t value h. missing_values c.args.self.now c.args.name.now c.in-Err.field-0 c.in-Err.ensures.missing t value h, λ never. refl)

pub returns-in-Ok-clause-some : goal.returns-in-Ok-clause-some
returns-in-Ok-clause-some c =
    let items = c.self.inside.list.items in
    let p : Property = record { name = c.property.inside.name; runs = c.property.inside.values } in
    let found : IsPlace items c.args.name.now c.in-Ok.place = subst (λ (xs : List Property). IsPlace xs c.args.name.now c.in-Ok.place) (sym c.self.view_is) c.in-Ok.ensures.found in
    let at : slice_get items c.in-Ok.place ≡ Some p = slice_get_read items (length items) c.in-Ok.place c.index-property.result.now refl found.within c.index-property.ensures ∙ ap Some (sym c.property.view_is) in
    let named = place_named items c.self.invariant c.in-Ok.place p at c.args.name.now found in
    subst (λ (xs : List Property). AreRunsOf (PropertiesHave xs c.args.name.now) p.runs) c.self.view_is (found_runs items c.self.invariant c.in-Ok.place p at c.args.name.now (place_named items c.self.invariant c.in-Ok.place p at c.args.name.now found))

pub returns-in-Ok-clause-none : goal.returns-in-Ok-clause-none
returns-in-Ok-clause-none c =
    let items = c.self.inside.list.items in
    let p : Property = record { name = c.property.inside.name; runs = c.property.inside.values } in
    let found : IsPlace items c.args.name.now c.in-Ok.place = subst (λ (xs : List Property). IsPlace xs c.args.name.now c.in-Ok.place) (sym c.self.view_is) c.in-Ok.ensures.found in
    let at : slice_get items c.in-Ok.place ≡ Some p = slice_get_read items (length items) c.in-Ok.place c.index-property.result.now refl found.within c.index-property.ensures ∙ ap Some (sym c.property.view_is) in
    let named = place_named items c.self.invariant c.in-Ok.place p at c.args.name.now found in
    let has = subst (λ (xs : List Property). (t : ℤ) × (value : Word) × PropertiesHave xs c.args.name.now t value) c.self.view_is (found_value items c.self.invariant c.in-Ok.place p at c.args.name.now named) in
    (λ none. let never : ⊥ = cc in absurd never, λ never. absurd (never has.0 has.1 has.2))
