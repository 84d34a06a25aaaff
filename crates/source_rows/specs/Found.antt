-- What a walk has found so far.
use Rattle.std.specs.Prelude.{ℕ, List, Some, IsTrue, ◌⊎◌, ◌↔◌}
use Rattle.std.specs.BTreeSet.{BTreeSet, contains}
use Rattle.std.specs.Ordering.{nat_cmp}
use Rattle.itpg_base.specs.Graphs.{Graph, HasEnd}
use Rattle.itpg_base.specs.declared.object_number.ObjNo.{ObjNo}
use Rattle.itpg_graph.specs.Edges.{HasNumber}
use Rattle.source_rows.specs.Reach.{IsStep, IsReached}

-- the objects that were found, and those of them that were found last
pub record Found : Type 0 where
  pub seen : BTreeSet ℕ
  pub fresh : List ObjNo

-- the object was found
abbrev pub IsSeen : Found → ℕ → Type 0
IsSeen f a = IsTrue (contains nat_cmp f.seen a)

-- the objects of the set are found too; each that is new is among the fresh ones
pub record Gains (A : ℕ → Type 0) (old new : Found) : Type 0 where
  pub seen : (a : ℕ) → IsSeen new a ↔ (IsSeen old a ⊎ A a)
  pub only : (a : ℕ) → HasNumber new.fresh a → HasNumber old.fresh a ⊎ A a
  pub kept : (a : ℕ) → HasNumber old.fresh a → HasNumber new.fresh a
  pub listed : (a : ℕ) → IsSeen new a → IsSeen old a ⊎ HasNumber new.fresh a

-- a step leads from one of the objects to a
abbrev pub IsNext : Graph → List ObjNo → ℕ → Type 0
IsNext g from a = (b : ℕ) × HasNumber from b × IsStep g b a

-- found is what is reached in at most n steps, and only from the fresh ones a step can lead to what wasn't found
pub record IsFound (g : Graph) (o n : ℕ) (f : Found) : Type 0 where
  pub exact : (a : ℕ) → IsSeen f a ↔ IsReached g o (Some n) a
  pub fresh : (a : ℕ) → HasNumber f.fresh a → IsSeen f a
  pub closed : (a b : ℕ) → IsSeen f a → IsStep g a b → HasNumber f.fresh a ⊎ IsSeen f b

-- an end of one of the edges
abbrev pub IsEndOf : Graph → List ObjNo → ℕ → Type 0
IsEndOf g from a = (e : ℕ) × HasNumber from e × HasEnd g e a
