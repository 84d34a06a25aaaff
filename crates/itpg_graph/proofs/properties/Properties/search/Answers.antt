use Rattle.std.proofs.Common.{List, length, subst, rules, of_calls}
use Rattle.std.specs.Prelude.{IfOk, IfErr}
use Rattle.std.proofs.lemmas.Fn.{always_returns_same}
use Rattle.std.specs.Cmp.Lexicographic.{slice_cmp}
use Rattle.std.specs.Ordering.{nat_cmp}
use Rattle.std.specs.List.Sorted.{IsBinarySearchResult, IsSearchInRange}
use Rattle.itpg_base.specs.Graphs.{Property}
use Rattle.itpg_graph.specs.Tables.{IsPlace, IsGap}
use Rattle.itpg_graph.proofs.Names.{searched}
use Rattle.itpg_graph.proofs.properties.Properties.search.Goals as goal

pub returns-clause-found : goal.returns-clause-found
returns-clause-found c =
    let ps = c.self.inside.list.items in
    let r = c.binary_search_by.result in
    let position : IsBinarySearchResult (λ (p : Property). slice_cmp nat_cmp p.name c.args.name.now) ps r = subst (λ (xs : List Property). IsBinarySearchResult (λ p. slice_cmp nat_cmp p.name c.args.name.now) xs r) c.deref.ensures.value
    (c.binary_search_by.ensures.position (λ p. slice_cmp nat_cmp p.name c.args.name.now) (always_returns_same _ _ _ (λ a r f' k. search (rules, of_calls)))) in
    let bound : IsSearchInRange r (length ps) = subst (λ (xs : List Property). IsSearchInRange r (length xs)) c.deref.ensures.value c.binary_search_by.ensures.bound in
    subst (λ (xs : List Property). IfOk r (IsPlace xs c.args.name.now)) c.self.view_is ((searched ps c.args.name.now c.self.invariant.rising r bound position).found)

pub returns-clause-missing : goal.returns-clause-missing
returns-clause-missing c =
    let ps = c.self.inside.list.items in
    let r = c.binary_search_by.result in
    let position : IsBinarySearchResult (λ (p : Property). slice_cmp nat_cmp p.name c.args.name.now) ps r = subst (λ (xs : List Property). IsBinarySearchResult (λ p. slice_cmp nat_cmp p.name c.args.name.now) xs r) c.deref.ensures.value
    (c.binary_search_by.ensures.position (λ p. slice_cmp nat_cmp p.name c.args.name.now) (always_returns_same _ _ _ (λ a r f' k. search (rules, of_calls)))) in
    let bound : IsSearchInRange r (length ps) = subst (λ (xs : List Property). IsSearchInRange r (length xs)) c.deref.ensures.value c.binary_search_by.ensures.bound in
    subst (λ (xs : List Property). IfErr r (IsGap xs c.args.name.now)) c.self.view_is ((searched ps c.args.name.now c.self.invariant.rising r bound position).missing)
