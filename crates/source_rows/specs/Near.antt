-- The neighbourhood of an object, and graphs that agree.
use Rattle.std.specs.Prelude.{◌≡◌, ℕ, Option, Some, IsTrue, slice_get, ◌↔◌}
use Rattle.itpg_base.specs.Graphs.{Graph, Object}
use Rattle.itpg_graph.specs.GraphParts.{IsOnly}
use Rattle.source_rows.specs.Reach.{Reach}

-- the graph with nothing but what is reached from o in so many steps
abbrev pub IsNear : Graph → ℕ → Option ℕ → Graph → Type 0
IsNear g o bound near = IsOnly g (Reach g o bound) near

-- the object of this number stands and is this
pub record StandsAs (g : Graph) (o : ℕ) (x : Object) : Type 0 where
  pub is : slice_get g.objects o ≡ Some x
  pub stands : IsTrue x.standing

-- two graphs agree in the horizon, and in the standing objects of the set
pub record AgreeOn (S : ℕ → Type 0) (g h : Graph) : Type 0 where
  pub begun : g.begun ≡ h.begun
  pub same : (o : ℕ) (x : Object) → S o → StandsAs g o x ↔ StandsAs h o x

-- they agree in the horizon and in all standing objects
abbrev pub Agree : Graph → Graph → Type 0
Agree g h = AgreeOn (λ o. Unit {0}) g h
