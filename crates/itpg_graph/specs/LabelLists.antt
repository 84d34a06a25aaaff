-- The lists of objects by label that the store keeps.
use Rattle.std.specs.Prelude.{◌≡◌, ◌<◌, List, [], Option, Some, None, IsSomeAnd, nat_eq, Contains, vec_len, vec_capacity}
use Rattle.std.specs.Cmp.Lexicographic.{pointwise}
use Rattle.std.specs.declared.alloc.Global.{Global}
use Rattle.std.specs.declared.vec.Vec.{Vec}
use Rattle.indexmap.specs.IndexMap.{get}
use Rattle.itpg_base.specs.Words.{Word}
use Rattle.itpg_base.specs.Graphs.{Graph}
use Rattle.itpg_base.specs.declared.object_number.ObjNo.{ObjNo}
use Rattle.itpg_graph.specs.declared.by_label.ByLabel.{ByLabel}
use Rattle.itpg_graph.specs.Edges.{AreNumbers}
use Rattle.itpg_graph.specs.Stores.{Table, IsStore}
use Rattle.itpg_graph.specs.WithLabel.{StandsWith}

-- the list that is kept for a label, if there is one
abbrev pub kept_for : ByLabel → Word → Option (Vec ObjNo Global)
kept_for l label = get (pointwise nat_eq) l.lists label

abbrev pub numbers_or_none : Option (Vec ObjNo Global) → List ObjNo
numbers_or_none None = []
numbers_or_none (Some list) = list.items

-- the objects that are kept for a label
abbrev pub held : ByLabel → Word → List ObjNo
held l label = numbers_or_none (kept_for l label)

-- the label has no list yet
abbrev pub HasNone : ByLabel → Word → Type 0
HasNone l label = kept_for l label ≡ None

-- one more object with the label needs no memory
abbrev pub HasRoomWith : ByLabel → Word → Type 0
HasRoomWith l label = IsSomeAnd (kept_for l label) (λ list. vec_len list < vec_capacity list)

-- one more object with these labels needs no memory
abbrev pub HasRoomFor : ByLabel → List Word → Type 0
HasRoomFor l labels = (label : Word) → Contains labels label → HasRoomWith l label

-- what is kept for each label is exactly the standing objects with it
pub record AreHeld (g : Graph) (lists : Word → List ObjNo) : Type 0 where
  pub each : (label : Word) → AreNumbers (StandsWith g label) (lists label)

-- the store is right, and so are its lists of objects by label
pub record IsWholeStore (g : Graph) (numbers : Table) (out into : List (List ObjNo)) (lists : Word → List ObjNo) : Type 0 where
  pub store : IsStore g numbers out into
  pub labels : AreHeld g lists
