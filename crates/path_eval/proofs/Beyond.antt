-- What rows have beyond others, as relations that are written down.
use Rattle.std.proofs.Common.{inl, inr, ⊎_elim, List}
use Rattle.itpg_base.specs.Graphs.{Graph}
use Rattle.itpg_base.specs.Points.{Point}
use Rattle.relation_rows.specs.declared.rows.Row.{Row}
use Rattle.relation_rows.specs.Rows.{RowsHold, NormalRows}
use Rattle.relation_rows.specs.Relations.{OnlyFirstHolds}
use Rattle.relation_rows.proofs.Alike.{hold_only}
use Rattle.relation_rows.proofs.Finite.{decide_rows}
use Rattle.label_scope.specs.declared.scope.Scope.{Scope}
use Rattle.repeat_engine.specs.Relations.{Given, Union}
use Rattle.path_eval.specs.Powers.{LeadAlike, StaysInside}

module _ (g : Graph) (u : Scope) (first second rest : List Row) (n : NormalRows (OnlyFirstHolds first second) rest) where
  in_first : (x y : Point) → RowsHold rest x y → RowsHold first x y
  in_first x y h = (hold_only (OnlyFirstHolds first second) rest n x y h).0

  -- together with the others it leads as much
  pub rest_alike : LeadAlike g u (Union (Given second) (Given rest)) (Union (Given second) (Given first))
  rest_alike = record {
    there = λ x y h. ⊎_elim (λ a. inl a) (λ a. inr (in_first x y a)) h;
    back = λ x y h. ⊎_elim
        (λ a. inl a)
        (λ a. elim (decide_rows second x y) [
          | inl held ↦ inl held
          | inr not ↦ inr (n.whole x y (a, not))
        ])
        h;
  }

  pub rest_inside : StaysInside g u (Given first) → StaysInside g u (Given rest)
  rest_inside inside x y h = inside x y (in_first x y h)
