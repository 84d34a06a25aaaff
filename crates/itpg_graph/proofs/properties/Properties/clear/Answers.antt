use Rattle.std.proofs.Common.{◌≡◌, ◌≢◌, ◌∙◌, [], List, Some, ap, length, refl, sym, subst, rules}
use Rattle.std.specs.Prelude.{slice_get, slice_set}
use Rattle.std.specs.List.{remove}
use Rattle.std.proofs.lemmas.Option.{slice_get_read}
use Rattle.itpg_base.specs.Graphs.{Property}
use Rattle.itpg_graph.specs.Families.{IsOrderly, AreProperties}
use Rattle.itpg_graph.specs.Tables.{IsPlace, IsGap, HasLess}
use Rattle.itpg_graph.proofs.Lists.{full_of}
use Rattle.itpg_graph.proofs.Parts.{place_named, found_cleared, found_emptied, missing_cleared}
use Rattle.itpg_graph.proofs.properties.Properties.clear.Goals as goal

pub returns-in_default-clause-ok : goal.returns-in_default-clause-ok
returns-in_default-clause-ok c =
    let items = c.self.inside.list.items in
    let gap : IsGap items c.args.name.now c.in_default.field-0 = subst (λ (xs : List Property). IsGap xs c.args.name.now c.in_default.field-0) (sym c.self.view_is) c.in_default.ensures.missing in
    subst (λ (xs : List Property). AreProperties (HasLess xs c.args.name.now c.args.s) xs) c.self.view_is (missing_cleared items c.self.invariant c.args.name.now c.in_default.field-0 gap c.args.s)

pub invariant_of-self-else-is_empty : goal.invariant_of-self-else-is_empty
invariant_of-self-else-is_empty c =
    let items = c.self.inside.list.items in
    let p : Property = record { name = c.property.inside.name; runs = c.property.inside.values } in
    let found : IsPlace items c.args.name.now c.in-Ok.place = subst (λ (xs : List Property). IsPlace xs c.args.name.now c.in-Ok.place) (sym c.self.view_is) c.in-Ok.ensures.found in
    let at : slice_get items c.in-Ok.place ≡ Some p = slice_get_read items (length items) c.in-Ok.place c.index_mut-property.result.now refl found.within c.index_mut-property.ensures.value ∙ ap Some (sym c.property.view_is) in
    let named : p.name ≡ c.args.name.now = place_named items c.self.invariant c.in-Ok.place p at c.args.name.now found in
    let some : c.clear.new.self ≢ [] = full_of c.clear.new.self c.is_empty.result c.is_empty.ensures c.if-is_empty.false in
    let made = found_cleared items c.self.invariant c.in-Ok.place p at c.args.name.now named c.args.s c.clear.new.self c.in_ok-clear.ensures.ok some in
    made.orderly

pub returns-else-is_empty-clause-ok : goal.returns-else-is_empty-clause-ok
returns-else-is_empty-clause-ok c =
    let items = c.self.inside.list.items in
    let p : Property = record { name = c.property.inside.name; runs = c.property.inside.values } in
    let found : IsPlace items c.args.name.now c.in-Ok.place = subst (λ (xs : List Property). IsPlace xs c.args.name.now c.in-Ok.place) (sym c.self.view_is) c.in-Ok.ensures.found in
    let at : slice_get items c.in-Ok.place ≡ Some p = slice_get_read items (length items) c.in-Ok.place c.index_mut-property.result.now refl found.within c.index_mut-property.ensures.value ∙ ap Some (sym c.property.view_is) in
    let named : p.name ≡ c.args.name.now = place_named items c.self.invariant c.in-Ok.place p at c.args.name.now found in
    let some : c.clear.new.self ≢ [] = full_of c.clear.new.self c.is_empty.result c.is_empty.ensures c.if-is_empty.false in
    let made = found_cleared items c.self.invariant c.in-Ok.place p at c.args.name.now named c.args.s c.clear.new.self c.in_ok-clear.ensures.ok some in
    subst (λ (xs : List Property). AreProperties (HasLess xs c.args.name.now c.args.s) (slice_set items c.in-Ok.place (record p { runs = c.clear.new.self }))) c.self.view_is made

pub invariant_of-self-then-is_empty : goal.invariant_of-self-then-is_empty
invariant_of-self-then-is_empty c =
    let items = c.self.inside.list.items in
    let p : Property = record { name = c.property.inside.name; runs = c.property.inside.values } in
    let found : IsPlace items c.args.name.now c.in-Ok.place = subst (λ (xs : List Property). IsPlace xs c.args.name.now c.in-Ok.place) (sym c.self.view_is) c.in-Ok.ensures.found in
    let at : slice_get items c.in-Ok.place ≡ Some p = slice_get_read items (length items) c.in-Ok.place c.index_mut-property.result.now refl found.within c.index_mut-property.ensures.value ∙ ap Some (sym c.property.view_is) in
    let named : p.name ≡ c.args.name.now = place_named items c.self.invariant c.in-Ok.place p at c.args.name.now found in
    let none : c.clear.new.self ≡ [] = c.is_empty.ensures.0 c.if-is_empty.true in
    let made = found_emptied items c.self.invariant c.in-Ok.place p at c.args.name.now named c.args.s c.clear.new.self c.in_ok-clear.ensures.ok none in
    let is : c.take_out.new.list.items ≡ remove (slice_set items c.in-Ok.place (record p { runs = c.clear.new.self })) c.in-Ok.place = search rules in
    subst IsOrderly (sym is) made.orderly

pub returns-then-is_empty-clause-ok : goal.returns-then-is_empty-clause-ok
returns-then-is_empty-clause-ok c =
    let items = c.self.inside.list.items in
    let p : Property = record { name = c.property.inside.name; runs = c.property.inside.values } in
    let found : IsPlace items c.args.name.now c.in-Ok.place = subst (λ (xs : List Property). IsPlace xs c.args.name.now c.in-Ok.place) (sym c.self.view_is) c.in-Ok.ensures.found in
    let at : slice_get items c.in-Ok.place ≡ Some p = slice_get_read items (length items) c.in-Ok.place c.index_mut-property.result.now refl found.within c.index_mut-property.ensures.value ∙ ap Some (sym c.property.view_is) in
    let named : p.name ≡ c.args.name.now = place_named items c.self.invariant c.in-Ok.place p at c.args.name.now found in
    let none : c.clear.new.self ≡ [] = c.is_empty.ensures.0 c.if-is_empty.true in
    let made = found_emptied items c.self.invariant c.in-Ok.place p at c.args.name.now named c.args.s c.clear.new.self c.in_ok-clear.ensures.ok none in
    let is : c.take_out.new.list.items ≡ remove (slice_set items c.in-Ok.place (record p { runs = c.clear.new.self })) c.in-Ok.place = search rules in
    subst (λ (xs : List Property). AreProperties (HasLess xs c.args.name.now c.args.s) c.take_out.new.list.items) c.self.view_is (subst (AreProperties (HasLess items c.args.name.now c.args.s)) (sym is) made)
