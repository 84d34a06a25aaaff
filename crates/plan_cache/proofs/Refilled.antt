-- A table that is filled anew.
use Rattle.std.proofs.Common.{◌≡◌, ℕ, zero, suc, ◌+◌, ◌<◌, ◌≤◌, List, [], ◌∷◌, ◌++◌, length, map, take, get_or, slice_get, Option, Some, inl, inr, refl, sym, ap, subst, ◌∙◌, arith}
use Rattle.std.proofs.lemmas.Option.{slice_get-get_or}
use Rattle.itpg_base.specs.Lists.{Among}
use Rattle.path_ast.specs.Terms.{QueryTerm, query_term}
use Rattle.path_ast.specs.declared.ast.Query.{Query}
use Rattle.path_ast.specs.Sizes.{path_size}
use Rattle.label_scope.specs.declared.scope.Scope.TheVariants.{All}
use Rattle.label_scope.specs.Members.{Member}
use Rattle.relation_rows.specs.declared.rows.Row.{Row}
use Rattle.plan_cache.specs.declared.operations.PlanNo.{PlanNo}
use Rattle.plan_cache.specs.Nodes.{PlanNode, Kept, Table, IsNodeOf, AreNodesOf, narrowed_member}
use Rattle.plan_cache.specs.Growing.{Grows, AddsUnder}
use Rattle.plan_cache.specs.Refilled.{terms_of, members_asked, numbers_of, KeepsOf, HasNode, KeepsShared}
use Rattle.plan_cache.specs.Former.{AreFormer, number_at, kept_at}
use Rattle.plan_cache.proofs.Growing.{nodes_stay}
use Rattle.plan_cache.proofs.Doing.{both_nodes, grown_few}
use Rattle.plan_cache.proofs.Adding.{adds_both}
use Rattle.plan_cache.proofs.Known.{number_below}
use Rattle.plan_cache.proofs.Moved.{at_place, stands_there, place_within}

-- ---- the queries, one after another

query_there : (queries : List Query) (i : ℕ) (q : Query) → slice_get queries i ≡ Some q → slice_get (map query_term queries) i ≡ Some (query_term q)
query_there [] i q e = cc
query_there (x ∷ queries) zero q e = ap (λ (v : Query). Some (query_term v)) (let same : x ≡ q = cc in same)
query_there (x ∷ queries) (suc i) q e = query_there queries i q e

pub query_got : (queries : List Query) (i : ℕ) (d : Query) → i < length queries → slice_get (map query_term queries) i ≡ Some (query_term (get_or queries i d))
query_got queries i d l = query_there queries i (get_or queries i d) (slice_get-get_or queries i d l)

pub among_at : (queries : List QueryTerm) (i : ℕ) (q : QueryTerm) → slice_get queries i ≡ Some q → Among queries q
among_at [] i q e = cc
among_at (x ∷ queries) zero q e = inl (let same : x ≡ q = cc in same)
among_at (x ∷ queries) (suc i) q e = inr (among_at queries i q e)

terms_next : (queries : List QueryTerm) (i : ℕ) (q : QueryTerm) → slice_get queries i ≡ Some q → terms_of (take (suc i) queries) ≡ terms_of (take i queries) + path_size q.path
terms_next [] i q e = cc
terms_next (x ∷ queries) zero q e = let same : x ≡ q = cc in let size = ap (λ (v : QueryTerm). path_size v.path) same in omega arith
terms_next (x ∷ queries) (suc i) q e = let r = terms_next queries i q e in omega arith

terms_within : (queries : List QueryTerm) (n : ℕ) → terms_of (take n queries) ≤ terms_of queries
terms_within queries zero = omega arith
terms_within [] (suc n) = omega arith
terms_within (x ∷ queries) (suc n) = let r = terms_within queries n in omega arith

-- there is room for the next
pub room_next : (queries : List QueryTerm) (i n most : ℕ) (q : QueryTerm) → slice_get queries i ≡ Some q → n ≤ terms_of (take i queries) → terms_of queries ≤ most → n + path_size q.path ≤ most
room_next queries i n most q e few all = let r = terms_next queries i q e in let w = terms_within queries (suc i) in omega arith

take_past_all : (queries : List QueryTerm) (n : ℕ) → length queries ≤ n → take n queries ≡ queries
take_past_all [] zero l = refl
take_past_all [] (suc n) l = refl
take_past_all (x ∷ queries) zero l = absurd (let none : ⊥ = omega arith in none)
take_past_all (x ∷ queries) (suc n) l = ap (λ v. x ∷ v) (take_past_all queries n (omega arith))

pub all_taken : (queries : List Query) (n : ℕ) → length queries ≤ n → take n (map query_term queries) ≡ map query_term queries
all_taken queries n l = take_past_all (map query_term queries) n (let m = mapped queries in omega arith)
  where
    mapped : (queries : List Query) → length (map query_term queries) ≡ length queries
    mapped [] = refl
    mapped (x ∷ queries) = ap suc (mapped queries)

members_next : (queries : List QueryTerm) (i : ℕ) (q : QueryTerm) → slice_get queries i ≡ Some q → members_asked (take (suc i) queries) ≡ members_asked (take i queries) ++ narrowed_member q.path All All ∷ []
members_next [] i q e = cc
members_next (x ∷ queries) zero q e = ap (λ (v : QueryTerm). narrowed_member v.path All All ∷ []) (let same : x ≡ q = cc in same)
members_next (x ∷ queries) (suc i) q e = ap (λ v. narrowed_member x.path All All ∷ v) (members_next queries i q e)

numbers_next : (numbers : List PlanNo) (number : PlanNo) → numbers_of (numbers ++ number ∷ []) ≡ numbers_of numbers ++ number.0 ∷ []
numbers_next [] number = refl
numbers_next (x ∷ numbers) number = ap (λ v. x.0 ∷ v) (numbers_next numbers number)

module _ (old new : List PlanNode) (queries : List QueryTerm) (i : ℕ) (q : QueryTerm) (at : slice_get queries i ≡ Some q) (grows : Grows (path_size q.path) old new)
    (numbers more : List PlanNo) (number : PlanNo) (pushed : more ≡ numbers ++ number ∷ []) where
  pub nodes_next : AreNodesOf old (numbers_of numbers) (members_asked (take i queries)) → IsNodeOf new number.0 (narrowed_member q.path All All) → AreNodesOf new (numbers_of more) (members_asked (take (i + 1) queries))
  nodes_next are node =
      let next : suc i ≡ i + 1 = omega arith in
      let both = both_nodes new (numbers_of numbers) (number.0 ∷ []) (members_asked (take i queries)) (narrowed_member q.path All All ∷ []) (nodes_stay (path_size q.path) old new grows (numbers_of numbers) (members_asked (take i queries)) are) (node, tt) in
      let by_numbers = subst (λ (ks : List ℕ). AreNodesOf new ks (members_asked (take i queries) ++ narrowed_member q.path All All ∷ [])) (sym (ap numbers_of pushed ∙ numbers_next numbers number)) both in
      let by_members = subst (λ (ms : List Member). AreNodesOf new (numbers_of more) ms) (sym (members_next queries i q at)) by_numbers in
      subst (λ (k : ℕ). AreNodesOf new (numbers_of more) (members_asked (take k queries))) next by_members

  pub only_next : AddsUnder [] old (numbers_of numbers) → AddsUnder old new (number.0 ∷ []) → AddsUnder [] new (numbers_of more)
  only_next first second =
      subst (λ (ks : List ℕ). AddsUnder [] new ks) (sym (ap numbers_of pushed ∙ numbers_next numbers number)) (adds_both (path_size q.path) [] old new (numbers_of numbers) (number.0 ∷ []) first grows second)

  pub few_next : length old ≤ terms_of (take i queries) → length new ≤ terms_of (take (i + 1) queries)
  few_next few =
      let next : suc i ≡ i + 1 = omega arith in
      let more_terms = terms_next queries i q at in
      let longer = grown_few (path_size q.path) old new grows in
      subst (λ (k : ℕ). length new ≤ terms_of (take k queries)) next (omega arith)

-- ---- what is kept over it

pub kept_shared : (old new : Table) (former : List PlanNo) → length former ≡ length new.nodes → length old.kept ≡ length old.nodes → AreFormer old.nodes new.nodes former
    → ((k : ℕ) → k < length former → slice_get new.kept k ≡ Some (kept_at old.kept (number_at former k))) → KeepsShared old new
kept_shared old new former long each are moved = λ m rows. (was m rows, λ h. is m rows h.0 h.1)
  where
    was : (m : Member) (rows : List Row) → KeepsOf new m rows → KeepsOf old m rows × HasNode new.nodes m
    was m rows h =
        let k = h.0 in
        let low = number_below new.nodes h.0 m h.1 in
        let there = moved h.0 (omega arith) in
        let own : kept_at old.kept (number_at former h.0) ≡ Some rows = some_one (sym there ∙ h.2) in
        let stood = stands_there old.kept (number_at former h.0) rows own in
        let size = place_within old.kept (number_at former h.0) (Some rows) stood in
        ((number_at former h.0, (are h.0 m (omega arith) h.1).known (omega arith), stood), (h.0, h.1))
      where
        some_one : {x y : Kept} → (let o : Option Kept = Some x in o) ≡ Some y → x ≡ y
        some_one e = cc

    is : (m : Member) (rows : List Row) → KeepsOf old m rows → HasNode new.nodes m → KeepsOf new m rows
    is m rows h node =
        let low = number_below new.nodes node.0 m node.1 in
        let same = (are node.0 m (omega arith) node.1).whole h.0 h.1 in
        let own = at_place old.kept (number_at former node.0) (Some rows) (ap (slice_get old.kept) (sym same) ∙ h.2) in
        (node.0, node.1, moved node.0 (omega arith) ∙ ap Some own)
