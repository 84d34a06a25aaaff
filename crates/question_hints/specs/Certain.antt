-- When a hint is certain from a graph.
use Rattle.std.specs.Prelude.{◌≡◌, ℕ, ℤ, List, [], ◌∷◌, ◌⊎◌}
use Rattle.itpg_base.specs.Words.{Word}
use Rattle.itpg_base.specs.Graphs.{Graph, Val}
use Rattle.itpg_graph.specs.WithLabel.{StandsWith}
use Rattle.itpg_graph.specs.Families.{HasProperty}
use Rattle.path_ast.specs.Meaning.{IsNodeOf}
use Rattle.question_hints.specs.declared.hint.Hint.{Hint}
use Rattle.question_hints.specs.declared.hint.Hint.TheVariants.{NoLabel, NoProperty, NoValue, EdgeInRound, EndsOnEdge, SelectiveEndLast}
use Rattle.question_hints.specs.declared.having.Trait.{Trait}
use Rattle.question_hints.specs.declared.having.Trait.TheVariants.{Property, Value, NodeWith}

-- the object has a value of the property at some moment, it has this one at some moment, or it is a standing node with the label
abbrev pub Has : Graph → Trait → ℕ → Type 0
Has g (Property prop) o = HasProperty g o prop
Has g (Value prop value) o = (t : ℤ) × Val g o prop t value
Has g (NodeWith label) o = StandsWith g label o × IsNodeOf g o

-- no object is so
unfoldable pub NoneHas : Graph → Trait → Type 0
NoneHas g wanted = (o : ℕ) → ¬ Has g wanted o

-- no standing object has the label
abbrev pub NoneHasLabel : Graph → Word → Type 0
NoneHasLabel g label = (o : ℕ) → ¬ StandsWith g label o

-- the hint says no more of the graph than is so. The last two say nothing of it, but of the form of the path
abbrev pub IsCertain : Graph → Hint → Type 0
IsCertain g (NoLabel label) = NoneHasLabel g label
IsCertain g (NoProperty prop) = NoneHas g (Property prop)
IsCertain g (NoValue prop value) = (¬ NoneHas g (Property prop)) × NoneHas g (Value prop value)
IsCertain g (EdgeInRound label) = (¬ NoneHasLabel g label) × NoneHas g (NodeWith label)
IsCertain g EndsOnEdge = Unit {0}
IsCertain g SelectiveEndLast = Unit {0}

-- the second list has those of the first that are certain, in their order
abbrev pub AreCertain : Graph → List Hint → List Hint → Type 0
AreCertain g [] hints = hints ≡ []
AreCertain g (h ∷ more) hints = (IsCertain g h × ((rest : List Hint) × (hints ≡ h ∷ rest) × AreCertain g more rest)) ⊎ ((¬ IsCertain g h) × AreCertain g more hints)
