-- For the crate's own functions: marks at the nodes that are reached from one.
use Rattle.std.specs.Prelude.{◌≡◌, ℕ, ◌+◌, ◌<◌, ◌≤◌, List, [], ◌∷◌, length, slice_get, slice_set, Bool, true, Some}
use Rattle.plan_cache.specs.Nodes.{PlanNode, Kept}
use Rattle.path_eval.specs.Keeping.{LeadsTo, IsReached}

-- each of the numbers is below the bound
abbrev pub AllBelow : ℕ → List ℕ → Type 0
AllBelow n [] = Unit {0}
AllBelow n (k ∷ ks) = (k < n) × AllBelow n ks

-- the marks once these numbers are marked too
abbrev pub marked : List ℕ → List Bool → List Bool
marked [] marks = marks
marked (k ∷ ks) marks = marked ks (slice_set marks k true)

-- each marked node is reached from n, and where those from k on lead is marked
pub record IsMarking (nodes : List PlanNode) (kept : List Kept) (n k : ℕ) (marks : List Bool) : Type 0 where
  pub long : length marks ≡ n + 1
  pub start : slice_get marks n ≡ Some true
  pub sound : (j : ℕ) → slice_get marks j ≡ Some true → IsReached nodes kept n j
  pub closed : (x y : ℕ) → k ≤ x → slice_get marks x ≡ Some true → LeadsTo nodes kept x y → slice_get marks y ≡ Some true

-- exactly those are marked that are reached
pub record AreReached (nodes : List PlanNode) (kept : List Kept) (n : ℕ) (marks : List Bool) : Type 0 where
  pub long : length marks ≡ n + 1
  pub sound : (j : ℕ) → slice_get marks j ≡ Some true → IsReached nodes kept n j
  pub whole : (j : ℕ) → IsReached nodes kept n j → slice_get marks j ≡ Some true
