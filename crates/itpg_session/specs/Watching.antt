-- What holds of the watches of a machine, and of what a tick finds of them.
use Rattle.std.specs.Prelude.{List, [], ◌∷◌, ◌||◌, IsTrue, length}
use Rattle.itpg_base.specs.Graphs.{Graph}
use Rattle.itpg_base.specs.Lists.{Among}
use Rattle.path_ast.specs.Terms.{QueryTerm}
use Rattle.row_printer.specs.Texts.{AreDeclared}
use Rattle.standing_queries.specs.Watches.{Watch, IsOfKind}
use Rattle.itpg_session.specs.PlainWatches.{PlainWatch}
use Rattle.itpg_session.specs.Ticks.{Ticked, StaysWide, Moves}

-- an end of its path is asked for, or both are
abbrev pub AsksForOne : QueryTerm → Type 0
AsksForOne q = IsTrue (q.first || q.last)

-- each object that a base has rows of was declared in the graph
abbrev pub BasesDeclared : Graph → List PlainWatch → Type 0
BasesDeclared g watches = (w : PlainWatch) → Among watches w → AreDeclared (length g.objects) w.base

-- so it is of the objects that a tick tells of for a watch
abbrev pub IsTickDeclared : Graph → Ticked → Type 0
IsTickDeclared g (StaysWide name) = Unit {0}
IsTickDeclared g (Moves name now gained lost) = AreDeclared (length g.objects) gained × AreDeclared (length g.objects) lost

-- and for all watches
abbrev pub AreTicksDeclared : Graph → List Ticked → Type 0
AreTicksDeclared g found = (x : Ticked) → Among found x → IsTickDeclared g x

-- an answer that becomes the base of the watch is of its kind
abbrev pub IsMoveOfKind : Watch → Ticked → Type 0
IsMoveOfKind w (StaysWide name) = Unit {0}
IsMoveOfKind w (Moves name now gained lost) = IsOfKind w.query now

-- so it is for each watch in order
abbrev pub AreMovesOfKind : List Watch → List Ticked → Type 0
AreMovesOfKind [] xs = Unit {0}
AreMovesOfKind (w ∷ ws) [] = Unit {0}
AreMovesOfKind (w ∷ ws) (x ∷ xs) = IsMoveOfKind w x × AreMovesOfKind ws xs
