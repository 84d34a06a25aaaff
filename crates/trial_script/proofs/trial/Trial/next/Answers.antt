use Rattle.std.proofs.Common.{ℕ, List, ◌∷◌, ◌<◌, ◌∙◌, ap, subst, sym}
use Rattle.trial_script.specs.Script.{edge_line}
use Rattle.trial_script.specs.Left.{left, IsPlace}
use Rattle.trial_script.proofs.Places.{edge_drawn}
use Rattle.trial_script.proofs.trial.Trial.next.Goals as goal

pub returns-in-Edge : goal.returns-in-Edge
returns-in-Edge c =
    let h = c.draw-edge.ensures in
    let there : c.in-Edge.i < 2000 = subst IsPlace c.in-Edge.is c.self.invariant in
    sym c.self.view_is ∙ ap (left c.self.inside.state) c.in-Edge.is
    ∙ edge_drawn _ _ _ _ _ c.in-Edge.i c.self.inside.state _ _ there h.number h.source h.target h.kind h.from h.to h.state
    ∙ ap (λ (l : List (List ℕ)). edge_line c.draw-edge.result.number c.draw-edge.result.meets c.draw-edge.result.source c.draw-edge.result.target ∷ l) (sym c.at-in-Edge.ensures)
