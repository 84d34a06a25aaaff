-- The lists of edges that the store keeps.
use Rattle.std.specs.Prelude.{◌≡◌, ◌≢◌, ℕ, ◌<◌, List, length, map, slice_get, IsSomeAnd, Some, vec_len, vec_capacity}
use Rattle.std.specs.declared.alloc.Global.{Global}
use Rattle.std.specs.declared.vec.Vec.{Vec}
use Rattle.itpg_base.specs.Graphs.{Graph, Ends}
use Rattle.itpg_base.specs.declared.object_number.ObjNo.{ObjNo}
use Rattle.itpg_graph.specs.declared.links.Links.{Links}
use Rattle.itpg_graph.specs.Edges.{LeadsBy, AreNumbers, HasNumber, AreRising}

-- the numbers that are kept for one object
abbrev pub list_of : Vec ObjNo Global → List ObjNo
list_of v = v.items

-- the list of each object
abbrev pub links_of : Links → List (List ObjNo)
links_of l = map list_of l.lists.items

-- one more object, and one more edge at o, need no memory
abbrev pub HasRoom : Links → Type 0
HasRoom l = vec_len l.lists < vec_capacity l.lists

abbrev pub HasRoomAt : Links → ℕ → Type 0
HasRoomAt l o = IsSomeAnd (slice_get l.lists.items o) (λ list. vec_len list < vec_capacity list)

-- each object has its list, which has exactly the standing edges with that end
pub record AreLinks (end : Ends → ℕ) (g : Graph) (lists : List (List ObjNo)) : Type 0 where
  pub each : (o : ℕ) (list : List ObjNo) → slice_get lists o ≡ Some list → AreNumbers (LeadsBy end g o) list
  pub count : length lists ≡ length g.objects

-- a list that rises loses the number
abbrev pub LosesIfRising : List ObjNo → ℕ → List ObjNo → Type 0
LosesIfRising was e list = AreRising was → AreNumbers (λ k. HasNumber was k × (k ≢ e)) list

-- the list of o loses the number, and each other stays
pub record LosesNumber (old : List (List ObjNo)) (o e : ℕ) (new : List (List ObjNo)) : Type 0 where
  pub others : (k : ℕ) → k ≢ o → slice_get new k ≡ slice_get old k
  pub count : length new ≡ length old
  pub own : (was list : List ObjNo) → slice_get old o ≡ Some was → slice_get new o ≡ Some list → AreRising was → AreNumbers (λ k. HasNumber was k × (k ≢ e)) list
