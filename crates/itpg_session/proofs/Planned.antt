-- Nodes that are added behind others, and tables that are made anew.
use Rattle.std.proofs.Common.{◌≡◌, inl, inr, ℕ, zero, suc, ◌+◌, ◌<◌, ◌≤◌, List, [], ◌∷◌, ◌++◌, length, map, take, get_or, replicate, Option, Some, None, refl, sym, ◌∙◌, ap, subst, arith}
use Rattle.std.proofs.lemmas.List.{length-append}
use Rattle.std.specs.Prelude.{slice_get, IsSomeAnd}
use Rattle.itpg_base.specs.Graphs.{Graph}
use Rattle.itpg_base.proofs.Objects.{there, here}
use Rattle.path_ast.specs.Terms.{QueryTerm}
use Rattle.label_scope.specs.declared.scope.Scope.TheVariants.{All}
use Rattle.label_scope.specs.Members.{Member}
use Rattle.relation_rows.specs.declared.rows.Row.{Row}
use Rattle.plan_cache.specs.declared.operations.PlanNo.{PlanNo}
use Rattle.plan_cache.specs.Nodes.{PlanNode, Kept, Table, IsNodeOf, AreNodesOf, narrowed_member}
use Rattle.plan_cache.specs.Refilled.{members_asked, numbers_of, KeepsShared}
use Rattle.plan_cache.specs.Growing.{Grows}
use Rattle.plan_cache.specs.KeptRows.{AddsFree}
use Rattle.plan_cache.specs.RightRows.{IsRight, IsTableRight}
use Rattle.standing_queries.specs.Watches.{Watch, replanned}
use Rattle.itpg_session.specs.Machine.{Standing}
use Rattle.itpg_session.specs.Steps.{IsAlike}
use Rattle.itpg_session.specs.Keeping.{IsWatchRight, AreWatchesRight, IsKeptRight, AreReplanned}
use Rattle.itpg_session.specs.Planning.{ArePlansOf, with_plans}
use Rattle.itpg_session.proofs.Plain.{replanned_same, replanned_again}

-- ---- a table that grows

-- what is said of a node is said of it behind more nodes too
still_said : (P : PlanNode → Type 0) (nodes more : List PlanNode) (k : ℕ) → IsSomeAnd (slice_get nodes k) P → IsSomeAnd (slice_get (nodes ++ more) k) P
still_said P [] more k h = absurd h
still_said P (n ∷ nodes) more zero h = h
still_said P (n ∷ nodes) more (suc k) h = still_said P nodes more k h

pub node_grown : (most : ℕ) (old new : List PlanNode) → Grows most old new → (k : ℕ) (m : Member) → IsNodeOf old k m → IsNodeOf new k m
node_grown most old new grows k m h = subst (λ (nodes : List PlanNode). IsNodeOf nodes k m) (sym grows.is) (still_said (λ n. n.member ≡ m) old grows.more k h)

pub grown_length : (most : ℕ) (old new : List PlanNode) → Grows most old new → length new ≤ length old + most
grown_length most old new grows = let e = ap length grows.is in let l = length-append old grows.more in let few = grows.few in omega (arith, e, l, few)

-- at the new places nothing is kept
kept_first : (old : List Kept) (more k : ℕ) (rows : List Row) → slice_get (old ++ replicate more None) k ≡ Some (Some rows) → slice_get old k ≡ Some (Some rows)
kept_first [] zero k rows e = e
kept_first [] (suc more) zero rows e = cc
kept_first [] (suc more) (suc k) rows e = kept_first [] more k rows e
kept_first (o ∷ old) more zero rows e = e
kept_first (o ∷ old) more (suc k) rows e = kept_first old more k rows e

pub kept_before : (old new : List Kept) → AddsFree old new → (k : ℕ) (rows : List Row) → slice_get new k ≡ Some (Some rows) → slice_get old k ≡ Some (Some rows)
kept_before old new free k rows e = kept_first old free.0 k rows (subst (λ (kept : List Kept). slice_get kept k ≡ Some (Some rows)) free.1 e)

module _ (g : Graph) (limit : ℕ) where
  pub table_grown : (most : ℕ) (old new : Table) → Grows most old.nodes new.nodes → AddsFree old.kept new.kept → IsTableRight g limit old → IsTableRight g limit new
  table_grown most old new grows free right = λ k rows e.
      subst (λ (nodes : List PlanNode). IsSomeAnd (slice_get nodes k) (λ n. IsRight g limit n.member rows)) (sym grows.is)
      (still_said (λ n. IsRight g limit n.member rows) old.nodes grows.more k (right k rows (kept_before old.kept new.kept free k rows e)))

  pub watches_grown : (most : ℕ) (old new : List PlanNode) → Grows most old new → (ws : List Watch) → AreWatchesRight g limit old ws → AreWatchesRight g limit new ws
  watches_grown most old new grows ws right = λ w a.
      let r = right w a in
      record { planned = node_grown most old new grows w.plan (narrowed_member w.query.path All All) r.planned; footed = r.footed; declared = r.declared; answered = r.answered }

  pub kept_grown : (most : ℕ) (old new : Table) (ws : List Watch) → Grows most old.nodes new.nodes → AddsFree old.kept new.kept → IsKeptRight g limit old ws → IsKeptRight g limit new ws
  kept_grown most old new ws grows free right = record {
    table_right = table_grown most old new grows free right.table_right;
    watches_right = watches_grown most old.nodes new.nodes grows ws right.watches_right;
  }

-- ---- the nodes of the watches

-- the nodes of the queries are those of the watches
pub plans_of : (nodes : List PlanNode) (queries : List QueryTerm) (ws : List Watch) (numbers : List PlanNo) → queries ≡ map (λ w. w.query) ws
    → AreNodesOf nodes (numbers_of numbers) (members_asked queries) → ArePlansOf nodes ws numbers
plans_of nodes queries ws numbers same are = each ws numbers (subst (λ (qs : List QueryTerm). AreNodesOf nodes (numbers_of numbers) (members_asked qs)) same are)
  where
    each : (ws : List Watch) (numbers : List PlanNo) → AreNodesOf nodes (numbers_of numbers) (members_asked (map (λ w. w.query) ws)) → ArePlansOf nodes ws numbers
    each [] [] are = tt
    each [] (number ∷ numbers) are = are
    each (w ∷ ws) [] are = are
    each (w ∷ ws) (number ∷ numbers) are = (are.0, each ws numbers are.1)

pub plans_length : (nodes : List PlanNode) (ws : List Watch) (numbers : List PlanNo) → ArePlansOf nodes ws numbers → length numbers ≡ length ws
plans_length nodes [] [] are = refl
plans_length nodes [] (number ∷ numbers) are = absurd are
plans_length nodes (w ∷ ws) [] are = absurd are
plans_length nodes (w ∷ ws) (number ∷ numbers) are = ap suc (plans_length nodes ws numbers are.1)

-- ---- new numbers for the watches

one_more_plan : (numbers : List PlanNo) (ws : List Watch) (i : ℕ) (d : PlanNo) → i < length numbers → replanned i (get_or numbers i d).0 (with_plans (take i numbers) ws) ≡ with_plans (take (suc i) numbers) ws
one_more_plan [] ws i d lt = absurd (omega (arith, lt))
one_more_plan (number ∷ numbers) [] zero d lt = refl
one_more_plan (number ∷ numbers) [] (suc i) d lt = refl
one_more_plan (number ∷ numbers) (w ∷ ws) zero d lt = refl
one_more_plan (number ∷ numbers) (w ∷ ws) (suc i) d lt = ap (λ (vs : List Watch). record w { plan = number.0 } ∷ vs) (one_more_plan numbers ws i d (omega (arith, lt)))

pub next_plan : (numbers : List PlanNo) (ws vs : List Watch) (i : ℕ) (d : PlanNo) → i < length numbers → vs ≡ with_plans (take i numbers) ws → replanned i (get_or numbers i d).0 vs ≡ with_plans (take (i + 1) numbers) ws
next_plan numbers ws vs i d lt is =
    let next : suc i ≡ i + 1 = omega arith in
    ap (replanned i (get_or numbers i d).0) is ∙ one_more_plan numbers ws i d lt ∙ ap (λ (k : ℕ). with_plans (take k numbers) ws) next

pub with_plans_length : (numbers : List PlanNo) (ws : List Watch) → length (with_plans numbers ws) ≡ length ws
with_plans_length [] ws = refl
with_plans_length (number ∷ numbers) [] = refl
with_plans_length (number ∷ numbers) (w ∷ ws) = ap suc (with_plans_length numbers ws)

pub with_plans_alike : (numbers : List PlanNo) (ws : List Watch) → AreReplanned ws (with_plans numbers ws)
with_plans_alike [] ws = replanned_same ws
with_plans_alike (number ∷ numbers) [] = tt
with_plans_alike (number ∷ numbers) (w ∷ ws) = (refl, with_plans_alike numbers ws)

module _ (g : Graph) (limit : ℕ) (before nodes : List PlanNode) where
  pub with_plans_right : (ws : List Watch) (numbers : List PlanNo) → AreWatchesRight g limit before ws → ArePlansOf nodes ws numbers → AreWatchesRight g limit nodes (with_plans numbers ws)
  with_plans_right [] [] right are v a = absurd a
  with_plans_right [] (number ∷ numbers) right are v a = absurd a
  with_plans_right (w ∷ ws) [] right are v a = absurd are
  with_plans_right (w ∷ ws) (number ∷ numbers) right are v (inl e) =
      let r = right w (inl refl) in
      subst (IsWatchRight g limit nodes) e (record { planned = are.0; footed = r.footed; declared = r.declared; answered = r.answered })
  with_plans_right (w ∷ ws) (number ∷ numbers) right are v (inr a) = with_plans_right ws numbers (λ u b. right u (inr b)) are.1 v a

-- what stands in a table that was made anew: what is kept in it was kept before, of the same member
pub table_anew : (g : Graph) (limit : ℕ) (old new : Table) → KeepsShared old new → length new.kept ≡ length new.nodes → IsTableRight g limit old → IsTableRight g limit new
table_anew g limit old new shared each right = λ k rows e.
    let n = some_at new.nodes k (let low = within new.kept k (Some rows) e in omega (arith, each, low)) in
    let was = ((shared n.0.member rows).0 (k, here new.nodes k (λ v. v.member ≡ n.0.member) n.0 n.1 refl, e)).0 in
    let m = there old.nodes was.0 (λ v. v.member ≡ n.0.member) was.1 in
    here new.nodes k (λ v. IsRight g limit v.member rows) n.0 n.1 (moved rows (slice_get old.nodes was.0) m.0 n.0 m.1 m.2 (right was.0 rows was.2))
  where
    moved : (rows : List Row) (o : Option PlanNode) (m n : PlanNode) → o ≡ Some m → m.member ≡ n.member → IsSomeAnd o (λ v. IsRight g limit v.member rows) → IsRight g limit n.member rows
    moved rows o m n at same right = subst (λ (v : Member). IsRight g limit v rows) same (subst (λ (x : Option PlanNode). IsSomeAnd x (λ v. IsRight g limit v.member rows)) at right)

    within : (kept : List Kept) (k : ℕ) (x : Kept) → slice_get kept k ≡ Some x → k < length kept
    within [] k x e = cc
    within (y ∷ kept) zero x e = omega arith
    within (y ∷ kept) (suc k) x e = let r = within kept k x e in omega (arith, r)

    some_at : (nodes : List PlanNode) (k : ℕ) → k < length nodes → (n : PlanNode) × (slice_get nodes k ≡ Some n)
    some_at [] k l = absurd (omega (arith, l))
    some_at (n ∷ nodes) zero l = (n, refl)
    some_at (n ∷ nodes) (suc k) l = some_at nodes k (omega (arith, l))

pub made_anew : (g : Graph) (limit : ℕ) (old new : Table) (ws : List Watch) (numbers : List PlanNo) → KeepsShared old new → length new.kept ≡ length new.nodes
    → ArePlansOf new.nodes ws numbers → IsKeptRight g limit old ws → IsKeptRight g limit new (with_plans numbers ws)
made_anew g limit old new ws numbers shared each are right = record {
  table_right = table_anew g limit old new shared each right.table_right;
  watches_right = with_plans_right g limit old.nodes new.nodes ws numbers right.watches_right are;
}

-- ---- nothing but the plans is other than it was

pub alike_same : (s : Standing) → IsAlike s s
alike_same s = record { machine = refl; limit = refl; watches = replanned_same s.watches }

pub alike_again : (a b c : Standing) → IsAlike a b → IsAlike b c → IsAlike a c
alike_again a b c h k = record { machine = k.machine ∙ h.machine; limit = k.limit ∙ h.limit; watches = replanned_again a.watches b.watches c.watches h.watches k.watches }
