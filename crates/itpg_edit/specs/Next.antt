-- What an edit that breaks no rule leaves, what it touches, and what `apply` answers.
use Rattle.std.specs.Prelude.{◌≡◌, ℕ, List}
use Rattle.itpg_base.specs.Graphs.{Graph, Named, ObjectIs}
use Rattle.itpg_base.specs.declared.touch.Touch.{Touch}
use Rattle.itpg_base.specs.declared.touch.Touch.TheVariants as touched
use Rattle.itpg_graph.specs.Changes.{begun_as, widened, with_node, with_edge, without, JoinsLive, CutsLive, PutsValue, ClearsValue}
use Rattle.itpg_edit.specs.declared.edit.Edit.{Edit}
use Rattle.itpg_edit.specs.declared.edit.Edit.TheVariants.{Begin, Extend, AddNode, AddEdge, Live, Gone, Put, Clear, Remove}
use Rattle.itpg_edit.specs.declared.fault.EditFault.{EditFault}
use Rattle.itpg_edit.specs.declared.fault.EditFault.TheVariants.{Memory, Rule}
use Rattle.itpg_edit.specs.Facts.{span_of}
use Rattle.itpg_edit.specs.Rules.{Unbroken, Broken}

-- the one graph that differs from g as the edit says, and in nothing else
abbrev pub Next : Graph → Edit → Graph → Type 0
Next g (Begin name lo hi) new = new ≡ begun_as g name (span_of lo hi)
Next g (Extend lo hi) new = new ≡ widened g (span_of lo hi)
Next g (AddNode id labels) new = new ≡ with_node g id labels
Next g (AddEdge id labels source target) new = (s : ℕ) × (t : ℕ) × Named g s source × Named g t target × (new ≡ with_edge g id labels s t)
Next g (Live id from to) new = (o : ℕ) × Named g o id × JoinsLive g o (span_of from to) new
Next g (Gone id from to) new = (o : ℕ) × Named g o id × CutsLive g o (span_of from to) new
Next g (Put id prop value from to) new = (o : ℕ) × Named g o id × PutsValue g o prop value (span_of from to) new
Next g (Clear id prop from to) new = (o : ℕ) × Named g o id × ClearsValue g o prop (span_of from to) new
Next g (Remove id) new = (o : ℕ) × Named g o id × (new ≡ without g o)

-- the object of this name has labels with which it is so
abbrev pub WithLabels : Graph → List ℕ → (List (List ℕ) → Type 0) → Type 0
WithLabels g name Is = (o : ℕ) × Named g o name × ObjectIs g o (λ x. Is x.labels)

-- what the edit touches on the graph before it
abbrev pub TouchOf : Graph → Edit → Touch → Type 0
TouchOf g (Begin name lo hi) touch = touch ≡ touched.All
TouchOf g (Extend lo hi) touch = touch ≡ touched.All
TouchOf g (AddNode id labels) touch = touch ≡ touched.Shape labels
TouchOf g (AddEdge id labels source target) touch = touch ≡ touched.Shape labels
TouchOf g (Live id from to) touch = WithLabels g id (λ labels. touch ≡ touched.Live labels)
TouchOf g (Gone id from to) touch = WithLabels g id (λ labels. touch ≡ touched.Gone labels)
TouchOf g (Put id prop value from to) touch = WithLabels g id (λ labels. touch ≡ touched.Value labels prop)
TouchOf g (Clear id prop from to) touch = WithLabels g id (λ labels. touch ≡ touched.Value labels prop)
TouchOf g (Remove id) touch = WithLabels g id (λ labels. touch ≡ touched.Shape labels)

-- the edit breaks no rule, the new graph is the next one, and this is what it touches
pub record Makes (g : Graph) (edit : Edit) (new : Graph) (touch : Touch) : Type 0 where
  pub unbroken : Unbroken g edit
  pub next : Next g edit new
  pub touches : TouchOf g edit touch

-- to make the edit takes memory
abbrev pub TakesMemory : Edit → Type 0
TakesMemory (Begin name lo hi) = ⊥
TakesMemory (Extend lo hi) = ⊥
TakesMemory (Remove id) = ⊥
TakesMemory edit = Unit {0}

-- why the edit isn't made: the first rule that it breaks; or it breaks none, and memory ran out
abbrev pub Excuses : Graph → Edit → EditFault → Type 0
Excuses g edit (Rule rule) = Broken g edit rule
Excuses g edit Memory = Unbroken g edit × TakesMemory edit
