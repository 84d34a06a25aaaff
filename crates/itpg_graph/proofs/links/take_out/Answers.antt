use Rattle.std.proofs.lemmas.Fn.{always_returns_same}
use Rattle.std.proofs.Common.{◌≡◌, ◌≢◌, Ok, Err, ◌<◌, length, sym, subst, rules, of_calls}
use Rattle.std.specs.List.Sorted.{IsBinarySearchResult}
use Rattle.std.specs.Ordering.{nat_cmp}
use Rattle.itpg_graph.specs.Edges.{HasNumber, AreNumbers}
use Rattle.itpg_graph.proofs.Rising.{search_found, search_none, removed_numbers, absent_numbers}
use Rattle.itpg_graph.proofs.links.take_out.Goals as goal

pub returns-in-Ok : goal.returns-in-Ok
returns-in-Ok c = λ rising.
    let xs = c.args.list.now.items in
    let n = c.args.number.0 in
    let is : c.deref.result.now ≡ xs = c.deref.ensures.value in
    let found : IsBinarySearchResult (λ x. nat_cmp x.0 n) xs (Ok c.in-Ok.place) = subst (λ ys. IsBinarySearchResult (λ x. nat_cmp x.0 n) ys (Ok c.in-Ok.place)) is (c.in-Ok.ensures.position (λ x. x.0) (always_returns_same _ _ _ (λ a r f' k. search (rules, of_calls)))) in
    let within : c.in-Ok.place < length xs = subst (λ ys. c.in-Ok.place < length ys) is c.in-Ok.ensures.bound in
    subst (AreNumbers (λ k. HasNumber xs k × (k ≢ n))) (sym c.remove.ensures.items) (removed_numbers xs c.in-Ok.place n rising within (search_found xs n rising c.in-Ok.place found))

pub returns-in_default : goal.returns-in_default
returns-in_default c = λ rising.
    let xs = c.args.list.now.items in
    let n = c.args.number.0 in
    let is : c.deref.result.now ≡ xs = c.deref.ensures.value in
    let parted : IsBinarySearchResult (λ x. nat_cmp x.0 n) xs (Err c.in_default.field-0) = subst (λ ys. IsBinarySearchResult (λ x. nat_cmp x.0 n) ys (Err c.in_default.field-0)) is (c.in_default.ensures.position (λ x. x.0) (always_returns_same _ _ _ (λ a r f' k. search (rules, of_calls)))) in
    absent_numbers xs n rising (search_none xs n rising c.in_default.field-0 parted)
