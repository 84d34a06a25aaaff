use Rattle.std.proofs.Common.{ℕ, ℤ, take}
use Rattle.itpg_base.specs.Spans.{Within}
use Rattle.itpg_base.specs.Graphs.{Exists}
use Rattle.itpg_graph.specs.Edges.{HasNumber}
use Rattle.itpg_edit.proofs.facts.some_exists.Given as goal

abbrev pub invariant-loop-object : goal.invariant-loop-object
invariant-loop-object l = (e : ℕ) (t : ℤ) → HasNumber (take l.object-index l.objects) e → Within t l.span → Exists l.graph e t → ⊥
