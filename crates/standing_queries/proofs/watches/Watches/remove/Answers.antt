use Rattle.std.proofs.Common.{◌≡◌, ◌<◌, List, length, sym, ◌∙◌, ap, subst, rules}
use Rattle.path_ast.specs.declared.ast.Query.{Query}
use Rattle.standing_queries.specs.Stores.{watches_of, AreStored}
use Rattle.standing_queries.proofs.Keeping.{within_queries, some_within, removed, removed_stored}
use Rattle.standing_queries.proofs.watches.Watches.remove.Goals as goal

pub remove-query-requires : goal.remove-query-requires
remove-query-requires c =
    let at = some_within c.args.self.now c.in-Some.place (λ w. w.name ≡ c.args.name.now) c.in-Some.ensures.some in
    let within : c.in-Some.place < length c.self.inside.queries.items = within_queries c.self.inside.queries.items c.self.inside.items.items c.args.self.now c.self.view_is c.self.invariant c.in-Some.place at in
    search rules

pub invariant_of-self : goal.invariant_of-self
invariant_of-self c =
    subst (λ (qs : List Query). AreStored qs c.remove-kept.new.self.items) (sym c.remove-query.ensures.items)
    (subst (AreStored _) (sym c.remove-kept.ensures.items)
    (removed_stored c.self.inside.queries.items c.self.inside.items.items c.args.self.now c.self.view_is c.self.invariant c.args.name.now c.in-Some.place c.in-Some.ensures.some))

pub returns-clause-removed : goal.returns-clause-removed
returns-clause-removed c =
    ap (λ (qs : List Query). watches_of qs c.remove-kept.new.self.items) c.remove-query.ensures.items
    ∙ ap (watches_of _) c.remove-kept.ensures.items
    ∙ removed c.self.inside.queries.items c.self.inside.items.items c.args.self.now c.self.view_is c.self.invariant c.args.name.now c.in-Some.place c.in-Some.ensures.some
