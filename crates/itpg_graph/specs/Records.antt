-- What a stored object is seen as.
use Rattle.std.specs.Prelude.{Bool, true, false, ℤ, List, [], Option, IsTrue}
use Rattle.itpg_base.specs.Words.{Word}
use Rattle.itpg_base.specs.Spans.{Span, Within, Covers}
use Rattle.itpg_base.specs.declared.object_number.ObjNo.{ObjNo}
use Rattle.itpg_base.specs.Graphs.{Object}
use Rattle.itpg_graph.specs.Kinds.{ends_of}
use Rattle.itpg_graph.specs.declared.stored.Record.{Record}

-- the lists of an object that stands; a dropped one has none, whatever its record has
abbrev pub where_standing : {X : Type 0} → Bool → List X → List X
where_standing true xs = xs
where_standing false xs = []

-- the object with this name, these labels and ends, and this record
abbrev pub object_by : Bool → Word → List Word → Option (ObjNo × ObjNo) → Record → Object
object_by standing name labels ends r = record { name = name; labels = labels; ends = ends_of ends; standing = standing; live = where_standing standing r.live; properties = where_standing standing r.properties }

-- the object exists at each moment of the span that is kept of it, if one is
abbrev pub AreSure : Bool → Span → List Span → Type 0
AreSure is_sure sure live = IsTrue is_sure → (t : ℤ) → Within t sure → Covers live t
