use Rattle.std.proofs.Common.{◌≡◌, ◌∙◌, List, Some, ap, length, refl, sym, subst}
use Rattle.std.specs.Prelude.{slice_get, slice_set}
use Rattle.std.proofs.lemmas.Option.{slice_get_read}
use Rattle.itpg_base.specs.Graphs.{Property}
use Rattle.itpg_graph.specs.Families.{AreProperties}
use Rattle.itpg_graph.specs.Tables.{IsPlace, HasMore}
use Rattle.itpg_graph.proofs.Parts.{place_named, found_put}
use Rattle.itpg_graph.proofs.properties.Properties.put.Goals as goal

pub invariant_of-self-in-Ok : goal.invariant_of-self-in-Ok
invariant_of-self-in-Ok c =
    let items = c.self.inside.list.items in
    let p : Property = record { name = c.property.inside.name; runs = c.property.inside.values } in
    let found : IsPlace items c.args.name.now c.in-Ok.place = subst (λ (xs : List Property). IsPlace xs c.args.name.now c.in-Ok.place) (sym c.self.view_is) c.in-Ok.ensures.found in
    let at : slice_get items c.in-Ok.place ≡ Some p = slice_get_read items (length items) c.in-Ok.place c.index_mut-property.result.now refl found.within c.index_mut-property.ensures.value ∙ ap Some (sym c.property.view_is) in
    let named : p.name ≡ c.args.name.now = place_named items c.self.invariant c.in-Ok.place p at c.args.name.now found in
    let made = found_put items c.self.invariant c.in-Ok.place p at c.args.name.now named c.args.s c.put.new.self c.args.value.now c.from.ensures.ordered c.in_ok-put-in-Ok.ensures.ok in
    made.orderly

pub returns-in_ok-put-in-Ok-clause-ok : goal.returns-in_ok-put-in-Ok-clause-ok
returns-in_ok-put-in-Ok-clause-ok c =
    let items = c.self.inside.list.items in
    let p : Property = record { name = c.property.inside.name; runs = c.property.inside.values } in
    let found : IsPlace items c.args.name.now c.in-Ok.place = subst (λ (xs : List Property). IsPlace xs c.args.name.now c.in-Ok.place) (sym c.self.view_is) c.in-Ok.ensures.found in
    let at : slice_get items c.in-Ok.place ≡ Some p = slice_get_read items (length items) c.in-Ok.place c.index_mut-property.result.now refl found.within c.index_mut-property.ensures.value ∙ ap Some (sym c.property.view_is) in
    let named : p.name ≡ c.args.name.now = place_named items c.self.invariant c.in-Ok.place p at c.args.name.now found in
    let made = found_put items c.self.invariant c.in-Ok.place p at c.args.name.now named c.args.s c.put.new.self c.args.value.now c.from.ensures.ordered c.in_ok-put-in-Ok.ensures.ok in
    subst (λ (xs : List Property). AreProperties (HasMore xs c.args.name.now c.args.value.now c.args.s) (slice_set items c.in-Ok.place (record p { runs = c.put.new.self }))) c.self.view_is made
