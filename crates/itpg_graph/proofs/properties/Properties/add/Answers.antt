use Rattle.std.proofs.Common.{◌≡◌, [], List, sym, subst, rules}
use Rattle.std.specs.List.{insert}
use Rattle.itpg_base.specs.Graphs.{Property, Valued}
use Rattle.interval_set.specs.Runs.{AreRunsOf, HasPut}
use Rattle.itpg_graph.specs.Families.{IsOrderly, AreProperties}
use Rattle.itpg_graph.specs.Tables.{IsGap, HasMore}
use Rattle.itpg_graph.proofs.Parts.{missing_put}
use Rattle.itpg_graph.proofs.properties.Properties.add.Goals as goal

pub invariant_of-self-2 : goal.invariant_of-self-2
invariant_of-self-2 c =
    let items = c.self.inside.list.items in
    let gap : IsGap items c.args.name.now c.args.place = subst (λ (xs : List Property). IsGap xs c.args.name.now c.args.place) (sym c.self.view_is) c.requires in
    let runs = c.put.new.self in
    let put : AreRunsOf (HasPut [] c.args.s c.args.value.now) runs = subst (λ (xs : List Valued). AreRunsOf (HasPut xs c.args.s c.args.value.now) runs) c.new-values.ensures c.in_ok-put.ensures.ok in
    let made = missing_put items c.self.invariant c.args.name.now c.args.place gap c.args.s c.args.value.now runs c.from.ensures.ordered put in
    let is : c.insert.new.self.items ≡ insert items c.args.place (record { name = c.args.name.now; runs = runs }) = search rules in
    subst IsOrderly (sym is) made.orderly

pub returns-clause-ok : goal.returns-clause-ok
returns-clause-ok c =
    let items = c.self.inside.list.items in
    let gap : IsGap items c.args.name.now c.args.place = subst (λ (xs : List Property). IsGap xs c.args.name.now c.args.place) (sym c.self.view_is) c.requires in
    let runs = c.put.new.self in
    let put : AreRunsOf (HasPut [] c.args.s c.args.value.now) runs = subst (λ (xs : List Valued). AreRunsOf (HasPut xs c.args.s c.args.value.now) runs) c.new-values.ensures c.in_ok-put.ensures.ok in
    let made = missing_put items c.self.invariant c.args.name.now c.args.place gap c.args.s c.args.value.now runs c.from.ensures.ordered put in
    let is : c.insert.new.self.items ≡ insert items c.args.place (record { name = c.args.name.now; runs = runs }) = search rules in
    subst (λ (xs : List Property). AreProperties (HasMore xs c.args.name.now c.args.value.now c.args.s) c.insert.new.self.items) c.self.view_is (subst (AreProperties (HasMore items c.args.name.now c.args.value.now c.args.s)) (sym is) made)
