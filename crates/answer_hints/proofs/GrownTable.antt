-- A table to which nodes are added is still right, and one with no nodes is.
use Rattle.std.proofs.Common.{◌≡◌, ℕ, zero, suc, ◌+◌, ◌≤◌, List, [], ◌∷◌, ◌++◌, length, replicate, Some, None, sym, ap, subst, arith}
use Rattle.std.proofs.lemmas.List.{length-append}
use Rattle.std.specs.Prelude.{slice_get, IsSomeAnd}
use Rattle.itpg_base.specs.Graphs.{Graph}
use Rattle.relation_rows.specs.declared.rows.Row.{Row}
use Rattle.plan_cache.specs.Nodes.{PlanNode, Kept, Table}
use Rattle.plan_cache.specs.Growing.{Grows}
use Rattle.plan_cache.specs.KeptRows.{AddsFree}
use Rattle.plan_cache.specs.RightRows.{IsRight, IsTableRight}

-- what is said of a node is said of it behind more nodes too
still_said : (P : PlanNode → Type 0) (nodes more : List PlanNode) (k : ℕ) → IsSomeAnd (slice_get nodes k) P → IsSomeAnd (slice_get (nodes ++ more) k) P
still_said P [] more k h = absurd h
still_said P (n ∷ nodes) more zero h = h
still_said P (n ∷ nodes) more (suc k) h = still_said P nodes more k h

pub grown_length : (most : ℕ) (old new : List PlanNode) → Grows most old new → length new ≤ length old + most
grown_length most old new grows = let e = ap length grows.is in let l = length-append old grows.more in let few = grows.few in omega (arith, e, l, few)

-- at the new places nothing is kept
kept_first : (old : List Kept) (more k : ℕ) (rows : List Row) → slice_get (old ++ replicate more None) k ≡ Some (Some rows) → slice_get old k ≡ Some (Some rows)
kept_first [] zero k rows e = e
kept_first [] (suc more) zero rows e = cc
kept_first [] (suc more) (suc k) rows e = kept_first [] more k rows e
kept_first (o ∷ old) more zero rows e = e
kept_first (o ∷ old) more (suc k) rows e = kept_first old more k rows e

pub grown_right : (g : Graph) (limit most : ℕ) (old new : Table) → Grows most old.nodes new.nodes → AddsFree old.kept new.kept → IsTableRight g limit old → IsTableRight g limit new
grown_right g limit most old new grows free right = λ k rows e.
    subst (λ (nodes : List PlanNode). IsSomeAnd (slice_get nodes k) (λ n. IsRight g limit n.member rows)) (sym grows.is)
    (still_said (λ n. IsRight g limit n.member rows) old.nodes grows.more k
    (right k rows (kept_first old.kept free.0 k rows (subst (λ (kept : List Kept). slice_get kept k ≡ Some (Some rows)) free.1 e))))

-- where nothing is kept all that is kept is right
pub empty_right : (g : Graph) (limit : ℕ) (table : Table) → table.kept ≡ [] → IsTableRight g limit table
empty_right g limit table none = λ k rows e. absurd (nowhere k rows (subst (λ (kept : List Kept). slice_get kept k ≡ Some (Some rows)) none e))
  where
    nowhere : (k : ℕ) (rows : List Row) → slice_get (let free : List Kept = [] in free) k ≡ Some (Some rows) → ⊥
    nowhere k rows e = cc
