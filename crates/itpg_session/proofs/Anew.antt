-- A table of plans that is made anew has the nodes of the watches' queries, and no others; and what was kept of them.
use Rattle.std.proofs.Common.{◌≡◌, inl, inr, ℕ, zero, suc, ◌+◌, ◌*◌, ◌<◌, ◌≤◌, List, [], ◌∷◌, ◌++◌, length, map, Some, refl, sym, ◌∙◌, ap, subst, arith}
use Rattle.std.specs.Prelude.{slice_get}
use Rattle.itpg_base.specs.Lists.{Among}
use Rattle.path_ast.specs.Terms.{PathTerm, QueryTerm, query_term}
use Rattle.path_ast.specs.Sizes.{path_size}
use Rattle.path_ast.specs.declared.ast.Query.{Query}
use Rattle.path_ast.specs.declared.counts.TheConstants.{MAX_TERMS}
use Rattle.label_scope.specs.declared.scope.Scope.TheVariants.{All}
use Rattle.label_scope.specs.Members.{Member}
use Rattle.relation_rows.specs.declared.rows.Row.{Row}
use Rattle.plan_cache.specs.declared.operations.PlanNo.{PlanNo}
use Rattle.plan_cache.specs.Nodes.{PlanNode, Kept, Table, IsNodeOf, AreShared, narrowed_member}
use Rattle.plan_cache.specs.declared.nodes.TheConstants.{MAX_NODES}
use Rattle.plan_cache.specs.Growing.{Grows, AddsUnder}
use Rattle.plan_cache.specs.KeptRows.{AddsFree}
use Rattle.plan_cache.specs.RightRows.{IsTableRight}
use Rattle.itpg_base.specs.Graphs.{Graph}
use Rattle.plan_cache.specs.Refilled.{terms_of, numbers_of, HasNode, KeepsShared}
use Rattle.plan_cache.proofs.Adding.{before, under_stays}
use Rattle.plan_cache.proofs.Parts.{walk_has_node}
use Rattle.standing_queries.specs.Watches.{Watch, MayBeWatched, most_watches}
use Rattle.itpg_session.specs.PlainWatches.{PlainWatch, plain, all_plain}
use Rattle.itpg_session.specs.Keeping.{AddsPath, IsWatchRoot, AreOfWatches, IsMadeAnew}
use Rattle.itpg_session.specs.Planning.{ArePlansOf, HasWatches}
use Rattle.itpg_session.proofs.Planned.{node_grown, kept_before}

-- ---- what is under a node stays under it in a table that grows

root_stays : (most : ℕ) (old new : List PlanNode) → Grows most old new → (ws : List PlainWatch) (root : ℕ) → IsWatchRoot old ws root → IsWatchRoot new ws root
root_stays most old new grows ws root (w, among, node) = (w, among, node_grown most old new grows root (narrowed_member w.query.path All All) node)

-- ---- the watches' queries, and their nodes

-- the number of a watch's node is that of the node of a watch's path
root_among : (nodes : List PlanNode) (ws : List Watch) (numbers : List PlanNo) → ArePlansOf nodes ws numbers → (root : ℕ) → Among (numbers_of numbers) root → IsWatchRoot nodes (all_plain ws) root
root_among nodes [] [] are root a = absurd a
root_among nodes [] (number ∷ numbers) are root a = absurd are
root_among nodes (w ∷ ws) [] are root a = absurd a
root_among nodes (w ∷ ws) (number ∷ numbers) are root (inl e) = (plain w, inl refl, subst (λ (k : ℕ). IsNodeOf nodes k (narrowed_member w.query.path All All)) e are.0)
root_among nodes (w ∷ ws) (number ∷ numbers) are root (inr a) = (let r = root_among nodes ws numbers are.1 root a in (r.0, inr r.1, r.2))

-- each node is of a watch's query
pub of_watches : (nodes : List PlanNode) (ws : List Watch) (numbers : List PlanNo) → ArePlansOf nodes ws numbers → AddsUnder [] nodes (numbers_of numbers) → AreOfWatches (all_plain ws) nodes
of_watches nodes ws numbers are only = λ k below. (let u = only k (omega arith) below in (u.0, root_among nodes ws numbers are u.0 u.1, (u.0, inl refl, u.2)))

-- and each watch's query has its nodes
root_of : (nodes : List PlanNode) (ws : List Watch) (numbers : List PlanNo) → ArePlansOf nodes ws numbers → (w : PlainWatch) → Among (all_plain ws) w
    → HasNode nodes (narrowed_member w.query.path All All)
root_of nodes [] [] are w a = absurd a
root_of nodes [] (number ∷ numbers) are w a = absurd a
root_of nodes (v ∷ ws) [] are w a = absurd are
root_of nodes (v ∷ ws) (number ∷ numbers) are w (inl e) = subst (λ (x : PlainWatch). HasNode nodes (narrowed_member x.query.path All All)) e (number.0, are.0)
root_of nodes (v ∷ ws) (number ∷ numbers) are w (inr a) = root_of nodes ws numbers are.1 w a

pub has_watches : (nodes : List PlanNode) → AreShared nodes → (ws : List Watch) (numbers : List PlanNo) → ArePlansOf nodes ws numbers → HasWatches nodes (all_plain ws)
has_watches nodes shared ws numbers are = λ m h. walk_has_node nodes shared (narrowed_member h.0.query.path All All) h.2.0 m (root_of nodes ws numbers are h.0 h.1) h.2.1

-- ---- the queries are few

pub in_range_of : (queries : List Query) → ((q : Query) → Among queries q → MayBeWatched (query_term q)) → (q : QueryTerm) → Among (map query_term queries) q → MayBeWatched q
in_range_of [] each q a = absurd a
in_range_of (x ∷ queries) each q (inl e) = subst MayBeWatched e (each x (inl refl))
in_range_of (x ∷ queries) each q (inr a) = in_range_of queries (λ y b. each y (inr b)) q a

terms_few : (queries : List QueryTerm) → ((q : QueryTerm) → Among queries q → MayBeWatched q) → terms_of queries ≤ length queries * MAX_TERMS
terms_few [] each = omega arith
terms_few (q ∷ queries) each = let own = (each q (inl refl)).terms in let rest = terms_few queries (λ r a. each r (inr a)) in omega (arith, own, rest)

as_many_queries : (ws : List Watch) → length (map (λ w. w.query) ws) ≡ length ws
as_many_queries [] = refl
as_many_queries (w ∷ ws) = ap suc (as_many_queries ws)

-- the queries of at most 32 watches leave room for one more
pub room_for_all : (queries : List Query) (ws : List Watch) → map query_term queries ≡ map (λ w. w.query) ws → ((q : Query) → Among queries q → MayBeWatched (query_term q))
    → length ws ≤ most_watches → terms_of (map query_term queries) + MAX_TERMS ≤ MAX_NODES
room_for_all queries ws same each few =
    let terms = terms_few (map query_term queries) (in_range_of queries each) in
    let many : length (map query_term queries) ≡ length ws = ap length same ∙ as_many_queries ws in
    omega (arith, terms, many, few)

-- ---- and then the path of a question

-- a node that stands among the first
node_before : (nodes more : List PlanNode) (k : ℕ) (m : Member) → k < length nodes → IsNodeOf (nodes ++ more) k m → IsNodeOf nodes k m
node_before [] more k m low h = absurd (omega (arith, low))
node_before (n ∷ nodes) more zero m low h = h
node_before (n ∷ nodes) more (suc k) m low h = node_before nodes more k m (omega (arith, low)) h

kept_within : (kept : List Kept) (k : ℕ) (rows : List Row) → slice_get kept k ≡ Some (Some rows) → k < length kept
kept_within [] k rows e = cc
kept_within (x ∷ kept) zero rows e = omega arith
kept_within (x ∷ kept) (suc k) rows e = let r = kept_within kept k rows e in omega (arith, r)

pub of_all : (p : PathTerm) (ws : List PlainWatch) (old mid new : Table) → MAX_NODES < length old.nodes + path_size p → AreOfWatches ws mid.nodes → HasWatches mid.nodes ws
    → KeepsShared old mid → length mid.kept ≡ length mid.nodes → AddsPath p mid new → AddsFree mid.kept new.kept → IsMadeAnew p ws old new
of_all p ws old mid new short of has shared each adds free = record {
  short = short;
  under = λ k below. elim (before (length mid.nodes) k) [
    | inl low ↦ (let r = of k low in
        (r.0, inr (root_stays (path_size p) mid.nodes new.nodes adds.grows ws r.0 r.1), under_stays (path_size p) mid.nodes new.nodes adds.grows (r.0 ∷ []) k r.2))
    | inr from ↦ (let r = adds.under k from below in (r.0, inl r.1, r.2))
  ];
  stays = λ m rows of_watch was. (
      let kept = (shared m rows).1 (was, has m of_watch) in
      (kept.0, node_grown (path_size p) mid.nodes new.nodes adds.grows kept.0 m kept.1, adds.stays kept.0 rows kept.2));
  only = λ m rows kept. inl (
      let there = kept_before mid.kept new.kept free kept.0 rows kept.2 in
      let low = kept_within mid.kept kept.0 rows there in
      let node = node_before mid.nodes adds.grows.more kept.0 m (omega (arith, low, each)) (subst (λ (nodes : List PlanNode). IsNodeOf nodes kept.0 m) adds.grows.is kept.1) in
      ((shared m rows).0 (kept.0, node, there)).0);
}

-- ---- a table beside which nothing is watched

-- in a table with no node nothing is kept
no_node : (nodes : List PlanNode) → nodes ≡ [] → (k : ℕ) (m : Member) → IsNodeOf nodes k m → ⊥
no_node nodes none k m h = subst (λ (xs : List PlanNode). IsNodeOf xs k m) none h

nothing_at : {X : Type 0} (xs : List X) (k : ℕ) (x : X) → xs ≡ [] → slice_get xs k ≡ Some x → ⊥
nothing_at [] k x none e = let no : ⊥ = cc in no
nothing_at (y ∷ ys) k x none e = let no : ⊥ = cc in no

pub empty_right : (g : Graph) (limit : ℕ) (table : Table) → table.kept ≡ [] → IsTableRight g limit table
empty_right g limit table none = λ k rows e. absurd (nothing_at table.kept k (Some rows) none e)

-- it was emptied, and then has the nodes of a path
pub emptied : (p : PathTerm) (old mid new : Table) → MAX_NODES < length old.nodes + path_size p → mid.nodes ≡ [] → mid.kept ≡ [] → AddsPath p mid new → AddsFree mid.kept new.kept → IsMadeAnew p [] old new
emptied p old mid new short nodes kept adds free = of_all p [] old mid new short
    (λ k low. absurd (let n : length mid.nodes ≡ 0 = ap length nodes in omega (arith, low, n)))
    (λ m h. absurd h.1)
    (λ m rows. (λ h. absurd (no_node mid.nodes nodes h.0 m h.1), λ h. absurd (no_node mid.nodes nodes h.1.0 m h.1.1)))
    (ap length kept ∙ ap length (sym nodes))
    adds free
