-- What steps along time lead to is the union of their powers.
use Rattle.std.proofs.Common.{◌≡◌, ◌↔◌, ℕ, List, Option, Some, None, IfSome, refl}
use Rattle.itpg_base.specs.Graphs.{Graph}
use Rattle.itpg_base.specs.Points.{Point}
use Rattle.relation_rows.specs.declared.rows.Row.{Row}
use Rattle.relation_rows.specs.Rows.{RowsHold, Fits}
use Rattle.relation_rows.proofs.Alike.{fits_alike}
use Rattle.label_scope.specs.declared.scope.Scope.{Scope}
use Rattle.repeat_engine.specs.Powers.{union_of_powers}
use Rattle.repeat_engine.specs.Relations.{Given, Identity, relations}
use Rattle.repeat_engine.proofs.UnionLaws.{own_union}
use Rattle.wide_witness.specs.Along.{IsAlong}
use Rattle.path_eval.specs.Powers.{IsInside, Leads, LeadAlike, StaysInside, FitsInside, Written}
use Rattle.path_eval.specs.Powers.Lawful.{powers_lawful}
use Rattle.path_eval.proofs.Foreseen.{union_reaches}

-- the one relation leads each point inside to itself, and the steps stay inside
module _ (g : Graph) (u : Scope) (one steps : List Row) (neutral : LeadAlike g u (Given one) Identity) (own : StaysInside g u (Given steps)) where
  abbrev To : ℕ → Written
  To n = union_of_powers relations (Given steps) n

  one_inside : (x : Point) → RowsHold one x x ↔ IsInside g u x
  one_inside x = (λ h. (neutral.there x x h).0, λ inside. neutral.back x x (inside, refl))

  pub one_same : (x y : Point) → RowsHold one x y → x ≡ y
  one_same x y h = (neutral.there x y h).1

  pub steps_inside : (x y : Point) → RowsHold steps x y → RowsHold one x x × RowsHold one y y
  steps_inside x y h = let inside = own x y h in ((one_inside x).1 inside.0, (one_inside y).1 inside.1)

  along_leads : (n : ℕ) (x y : Point) → IsAlong one steps n x y → Leads g u (To n) x y
  along_leads n x y h = (union_reaches g u steps own x ((one_inside x).0 h.0) n y).1 h.1

  leads_along : (n : ℕ) (x y : Point) → Leads g u (To n) x y → IsAlong one steps n x y
  leads_along n x y h =
      let inside = (own_union (powers_lawful g u 0) (Given steps) own n x y h).0 in
      ((one_inside x).1 inside, (union_reaches g u steps own x inside n y).0 h)

  -- rows that hold what they lead to are the union
  pub along_is : (n : ℕ) (made : Option (List Row)) → IfSome made (λ all. (x y : Point) → RowsHold all x y ↔ IsAlong one steps n x y) → IfSome made (λ all. LeadAlike g u (Given all) (To n))
  along_is n (Some all) h = record { there = λ x y held. along_leads n x y ((h x y).0 held); back = λ x y leads. (h x y).1 (leads_along n x y leads) }
  along_is n None h = tt

  -- and each union fits where what so many of them lead to does
  pub along_fits : (limit : ℕ) (made : Option (List Row)) → IfSome made (λ all. (n : ℕ) → Fits (IsAlong one steps n) limit) → IfSome made (λ all. (k : ℕ) → FitsInside g u limit (To k))
  along_fits limit (Some all) h = λ k. fits_alike (IsAlong one steps k) (Leads g u (To k)) (along_leads k) (leads_along k) limit (h k)
  along_fits limit None h = tt
