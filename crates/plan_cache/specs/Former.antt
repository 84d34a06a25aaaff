-- The numbers that nodes of one table have in another: in a former one, when a table is filled anew.
use Rattle.std.specs.Prelude.{◌≡◌, ℕ, zero, suc, ◌<◌, ◌≤◌, ◌+◌, List, [], ◌∷◌, length, slice_get, Some, None}
use Rattle.label_scope.specs.Members.{Member}
use Rattle.plan_cache.specs.declared.key.PlanKey.{PlanKey}
use Rattle.plan_cache.specs.declared.nodes.TheConstants.{MAX_NODES}
use Rattle.plan_cache.specs.declared.operations.PlanNo.{PlanNo}
use Rattle.plan_cache.specs.declared.shelf.TheConstants.{MAX_KEPT_ROWS}
use Rattle.plan_cache.specs.Operations.{PartTerm, Asks, Leads, BothHold, EitherHolds, Fails, OpTerm, Tests, GoesForward, GoesBackward, GoesNext, GoesPrevious, InTurn, OneOf, Times, op_term}
use Rattle.plan_cache.specs.Nodes.{PlanNode, Kept, IsNodeOf, IsOperation, IsWalkScope}
use Rattle.plan_cache.specs.KeptRows.{rows_kept}

-- the key's node
pub record IsMadeBy (nodes : List PlanNode) (n : PlanNode) (key : PlanKey) : Type 0 where
  pub does : IsOperation nodes n (op_term key.op)
  pub sources : n.member.sources ≡ key.sources
  pub targets : n.member.targets ≡ key.targets
  pub walk : IsWalkScope n.member key.walk

-- the number in the list, and behind its end one that no node has
abbrev pub number_at : List PlanNo → ℕ → ℕ
number_at [] k = MAX_NODES
number_at (number ∷ numbers) zero = number.0
number_at (number ∷ numbers) (suc k) = number_at numbers k

-- a test, and an operation, over other numbers
abbrev pub part_renumbered : (ℕ → ℕ) → PartTerm → PartTerm
part_renumbered f (Asks leaf) = Asks leaf
part_renumbered f (Leads k) = Leads (f k)
part_renumbered f (BothHold c d) = BothHold (part_renumbered f c) (part_renumbered f d)
part_renumbered f (EitherHolds c d) = EitherHolds (part_renumbered f c) (part_renumbered f d)
part_renumbered f (Fails c) = Fails (part_renumbered f c)

abbrev pub op_renumbered : (ℕ → ℕ) → OpTerm → OpTerm
op_renumbered f (Tests c) = Tests (part_renumbered f c)
op_renumbered f GoesForward = GoesForward
op_renumbered f GoesBackward = GoesBackward
op_renumbered f GoesNext = GoesNext
op_renumbered f GoesPrevious = GoesPrevious
op_renumbered f (InTurn a b) = InTurn (f a) (f b)
op_renumbered f (OneOf a b) = OneOf (f a) (f b)
op_renumbered f (Times body n m) = Times (f body) n m

-- the key does what the node does, over the former numbers of its children, between the same scopes
pub record IsFormerKey (nodes : List PlanNode) (former : List PlanNo) (n : PlanNode) (key : PlanKey) : Type 0 where
  pub op : OpTerm
  pub does : IsOperation nodes n op
  pub moved : op_term key.op ≡ op_renumbered (number_at former) op
  pub sources : n.member.sources ≡ key.sources
  pub targets : n.member.targets ≡ key.targets
  pub walk : IsWalkScope n.member key.walk

-- the number is that of the member's node in the old table; if it has none there, no node has the number
pub record IsFormerOf (old : List PlanNode) (m : Member) (number : ℕ) : Type 0 where
  pub known : number < length old → IsNodeOf old number m
  pub whole : (i : ℕ) → IsNodeOf old i m → i ≡ number

-- so it is with the first nodes, as many as there are numbers
abbrev pub AreFormer : List PlanNode → List PlanNode → List PlanNo → Type 0
AreFormer old nodes former = (k : ℕ) (m : Member) → k < length former → IsNodeOf nodes k m → IsFormerOf old m (number_at former k)

-- no two nodes had one number, where it is below this one
abbrev pub AreFormerApart : ℕ → List PlanNo → Type 0
AreFormerApart bound former = (i j : ℕ) → i < length former → j < length former → number_at former i ≡ number_at former j → number_at former i < bound → i ≡ j

-- what is kept at a place; nothing behind the last
abbrev pub kept_at : List Kept → ℕ → Kept
kept_at [] place = None
kept_at (k ∷ kept) zero = k
kept_at (k ∷ kept) (suc place) = kept_at kept place

-- what was kept at the former places of the first nodes, so many, stands at their own; at the others nothing is kept as yet
pub record IsMoving (n : ℕ) (former : List PlanNo) (was from to : List Kept) : Type 0 where
  pub done : (k : ℕ) → k < n → slice_get to k ≡ Some (kept_at was (number_at former k))
  pub rest : (k : ℕ) → n ≤ k → k < length to → slice_get to k ≡ Some None
  pub left : (w : ℕ) → ((k : ℕ) → k < n → number_at former k ≡ w → ⊥) → kept_at from w ≡ kept_at was w
  pub each : length from ≡ length was
  pub room : rows_kept from + rows_kept to ≤ MAX_KEPT_ROWS
