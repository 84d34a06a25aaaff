-- What a store is seen as.
use Rattle.std.specs.Prelude.{◌≡◌, ℕ, List, Option, Some, option_map, nat_eq, nat_lt, length, if◌then◌else◌}
use Rattle.std.specs.Cmp.Lexicographic.{pointwise}
use Rattle.indexmap.specs.IndexMap.{get}
use Rattle.itpg_base.specs.Words.{Word}
use Rattle.itpg_base.specs.Graphs.{Graph, Object, Begun, Good, Named, ObjectIs}
use Rattle.itpg_base.specs.declared.object_number.ObjNo.{ObjNo}
use Rattle.itpg_base.specs.declared.short_name.TheConstants.{MAX_SHORT}
use Rattle.itpg_graph.specs.Links.{AreLinks}
use Rattle.itpg_graph.specs.declared.numbers.Numbers.{Numbers}
use Rattle.itpg_graph.specs.declared.stored.Opened.{Opened}

abbrev pub begun_of : Opened → Begun
begun_of b = record { name = b.name; horizon = b.horizon }

abbrev pub graph_of : Option Opened → List Object → Graph
graph_of opened objects = record { begun = option_map begun_of opened; objects = objects }

-- the number that the table has for a name; a short one stands in a part of its own
abbrev pub Table : Type 0
Table = Numbers

abbrev pub listed : Table → Word → Option ℕ
listed numbers name = if nat_lt MAX_SHORT (length name) then get (pointwise nat_eq) numbers.long name else get (pointwise nat_eq) numbers.short name

-- the table has the number of each standing object, and no name with another object's number
pub record IsIndexed (numbers : Table) (g : Graph) : Type 0 where
  pub whole : (name : Word) (o : ℕ) → Named g o name → listed numbers name ≡ Some o
  pub only : (name : Word) (o : ℕ) → listed numbers name ≡ Some o → ObjectIs g o (λ x. x.name ≡ name)

-- the graph is good, names are found, and so are the edges that leave an object and that come into it
pub record IsStore (g : Graph) (numbers : Table) (out into : List (List ObjNo)) : Type 0 where
  pub good : Good g
  pub indexed : IsIndexed numbers g
  pub sources : AreLinks (λ n. n.source) g out
  pub targets : AreLinks (λ n. n.target) g into
