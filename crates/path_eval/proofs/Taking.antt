-- What the powers of a body's relation give of its repetitions.
use Rattle.std.proofs.Common.{◌≡◌, ℕ, ◌≤◌, ◌^◌, List, [], ◌∷◌, Some, None, Result, Ok, Err, IfOk, All, arith}
use Rattle.std.specs.List.{AllByRecursion}
use Rattle.std.proofs.lemmas.List.Elements.{All-from_recursion, recursion_from_All}
use Rattle.itpg_base.specs.Chains.{chain}
use Rattle.itpg_base.specs.Graphs.{Graph}
use Rattle.itpg_base.specs.Points.{Point, Relation}
use Rattle.relation_rows.specs.declared.rows.Row.{Row}
use Rattle.relation_rows.specs.declared.rows.RelFault.{RelFault}
use Rattle.relation_rows.specs.declared.rows.RelFault.TheVariants.{Memory, Wide}
use Rattle.relation_rows.specs.Rows.{RowsHold}
use Rattle.relation_rows.proofs.Alike.{fits_alike, normal_self}
use Rattle.path_ast.specs.Terms.{PathTerm, Repetition}
use Rattle.label_scope.specs.declared.scope.Scope.{Scope}
use Rattle.label_scope.specs.Narrowing.{Cut}
use Rattle.label_scope.specs.Members.{powers_within, unions_within, doubles}
use Rattle.repeat_engine.specs.Powers.{nth_power, union_of_powers}
use Rattle.repeat_engine.specs.Composed.{IsOkWhere}
use Rattle.repeat_engine.specs.Relations.{Given, Identity, relations}
use Rattle.repeat_engine.proofs.ChainLaws.{chain_last}
use Rattle.path_eval.specs.Powers.{Written, Leads, LeadAlike, StaysInside, FitsInside, IsBody, HoldsFitting, GivesPairs}
use Rattle.path_eval.proofs.Walking.{rows_inside, of_cut, cut_of, walks_of_power, power_of_walks, walks_of_union, union_of_walks, walks_of_all, all_of_walks}
use Rattle.path_eval.proofs.Diagonals.{identity_fits}
use Rattle.path_eval.proofs.Composing.{WantsMemory}
use Rattle.path_eval.proofs.MembersWithin.{powers_fit, fit_powers, unions_fit, fit_unions, doubles_all, all_doubles, wide_unless, PowerFits, UnionFits}

all_as : (P Q : ℕ → Type 0) → ((k : ℕ) → P k → Q k) → (ks : List ℕ) → AllByRecursion P ks → AllByRecursion Q ks
all_as P Q f [] all = tt
all_as P Q f (k ∷ ks) all = (f k all.0, all_as P Q f ks all.1)

not_memory : Wide ≡ Memory → ⊥
not_memory e = let none : ⊥ = cc in none

module _ (g : Graph) (r : PathTerm) (u : Scope) (limit : ℕ) (rows : List Row) (body : IsBody g r u limit rows) where
  pub body_inside : StaysInside g u (Given rows)
  body_inside = rows_inside g body.good r u rows body.normal

  pub body_fits : FitsInside g u limit (Given rows)
  body_fits = (rows, normal_self (Cut g r u u) rows body.normal, body.few)

  abbrev Power : ℕ → Written
  Power k = nth_power relations (Given rows) k

  abbrev Union : ℕ → Written
  Union k = union_of_powers relations (Given rows) k

  power_leads : (k : ℕ) (x y : Point) → Leads g u (Power k) x y → Cut g (Repetition r k (Some k)) u u x y
  power_leads k x y h = cut_of g body.good r u rows body.normal k (Some k) x y (walks_of_power g body.good r u rows body.normal k x y h)

  leads_power : (k : ℕ) (x y : Point) → Cut g (Repetition r k (Some k)) u u x y → Leads g u (Power k) x y
  leads_power k x y c = power_of_walks g body.good r u rows body.normal k x y (of_cut g body.good r u rows body.normal body.passes k (Some k) x y c)

  union_leads : (k : ℕ) (x y : Point) → Leads g u (Union k) x y → Cut g (Repetition r 0 (Some k)) u u x y
  union_leads k x y h = cut_of g body.good r u rows body.normal 0 (Some k) x y (walks_of_union g body.good r u rows body.normal k x y h)

  leads_union : (k : ℕ) (x y : Point) → Cut g (Repetition r 0 (Some k)) u u x y → Leads g u (Union k) x y
  leads_union k x y c = union_of_walks g body.good r u rows body.normal k x y (of_cut g body.good r u rows body.normal body.passes 0 (Some k) x y c)

  all_leads : (x y : Point) → Leads g u (Union (2 ^ 60)) x y → Cut g (Repetition r 0 None) u u x y
  all_leads x y h = cut_of g body.good r u rows body.normal 0 None x y (walks_of_all g body.good r u rows body.normal x y h)

  leads_all : (x y : Point) → Cut g (Repetition r 0 None) u u x y → Leads g u (Union (2 ^ 60)) x y
  leads_all x y c = all_of_walks g body.good r u rows body.normal x y (of_cut g body.good r u rows body.normal body.passes 0 None x y c)

  power_fits : (k : ℕ) → FitsInside g u limit (Power k) → PowerFits g limit r u k
  power_fits k fits = fits_alike (Leads g u (Power k)) (Cut g (Repetition r k (Some k)) u u) (power_leads k) (leads_power k) limit fits

  fits_power : (k : ℕ) → PowerFits g limit r u k → FitsInside g u limit (Power k)
  fits_power k fits = fits_alike (Cut g (Repetition r k (Some k)) u u) (Leads g u (Power k)) (leads_power k) (power_leads k) limit fits

  union_fits : (k : ℕ) → FitsInside g u limit (Union k) → UnionFits g limit r u k
  union_fits k fits = fits_alike (Leads g u (Union k)) (Cut g (Repetition r 0 (Some k)) u u) (union_leads k) (leads_union k) limit fits

  fits_union : (k : ℕ) → UnionFits g limit r u k → FitsInside g u limit (Union k)
  fits_union k fits = fits_alike (Cut g (Repetition r 0 (Some k)) u u) (Leads g u (Union k)) (leads_union k) (union_leads k) limit fits

  -- rows that hold what a relation leads over, and fit
  holds : (R : Relation) (w : Written) (v : List Row) → ((x y : Point) → Leads g u w x y → R x y) → ((x y : Point) → R x y → Leads g u w x y) → LeadAlike g u (Given v) w → FitsInside g u limit (Given v)
      → HoldsFitting R limit v
  holds R w v there back alike fits =
      let whole = λ (x y : Point) (h : R x y). alike.back x y (back x y h) in
      let only = λ (x y : Point) (h : RowsHold v x y). there x y (alike.there x y h) in
      record { whole = whole; only = only; fits = fits_alike (RowsHold v) R only whole limit fits }

  pub gives_power : (n : ℕ) (result : Result (List Row) RelFault) → IfOk result (λ v. LeadAlike g u (Given v) (Power n)) → IfOk result (λ v. FitsInside g u limit (Given v))
      → IsOkWhere WantsMemory result (All (λ k. FitsInside g u limit (Power k)) (chain n))
      → GivesPairs g limit (Cut g (Repetition r n (Some n)) u u) (powers_within r u (chain n)) result
  gives_power n (Ok v) alike fits exact = (
    holds (Cut g (Repetition r n (Some n)) u u) (Power n) v (power_leads n) (leads_power n) alike fits,
    powers_fit g limit r u (chain n) (all_as (λ k. FitsInside g u limit (Power k)) (PowerFits g limit r u) power_fits (chain n) (recursion_from_All _ (chain n) exact)),
  )
  gives_power n (Err Memory) alike fits exact = tt
  gives_power n (Err Wide) alike fits exact =
      wide_unless g limit (powers_within r u (chain n))
      (λ all. exact not_memory (All-from_recursion _ (chain n) (all_as (PowerFits g limit r u) (λ k. FitsInside g u limit (Power k)) fits_power (chain n) (fit_powers g limit r u (chain n) all))))

  pub gives_union : (n : ℕ) → 1 ≤ n → (result : Result (List Row) RelFault) → IfOk result (λ v. LeadAlike g u (Given v) (Union n)) → IfOk result (λ v. FitsInside g u limit (Given v))
      → IsOkWhere WantsMemory result (FitsInside g u limit Identity × All (λ k. FitsInside g u limit (Union k)) (chain n))
      → GivesPairs g limit (Cut g (Repetition r 0 (Some n)) u u) (unions_within r u (chain n)) result
  gives_union n some (Ok v) alike fits exact = (
    holds (Cut g (Repetition r 0 (Some n)) u u) (Union n) v (union_leads n) (leads_union n) alike fits,
    unions_fit g limit r u (chain n) (all_as (λ k. FitsInside g u limit (Union k)) (UnionFits g limit r u) union_fits (chain n) (recursion_from_All _ (chain n) exact.1)),
  )
  gives_union n some (Err Memory) alike fits exact = tt
  gives_union n some (Err Wide) alike fits exact =
      wide_unless g limit (unions_within r u (chain n))
      (λ all.
      let each : AllByRecursion (UnionFits g limit r u) (chain n) = fit_unions g limit r u (chain n) all in
      let last : UnionFits g limit r u n = chain_last (UnionFits g limit r u) n some (All-from_recursion _ (chain n) each) in
      exact not_memory
      (identity_fits g u body.good r (Some n) limit last, All-from_recursion _ (chain n) (all_as (UnionFits g limit r u) (λ k. FitsInside g u limit (Union k)) fits_union (chain n) each)))

  pub gives_all : (result : Result (List Row) RelFault) → IfOk result (λ v. LeadAlike g u (Given v) (Union (2 ^ 60))) → IfOk result (λ v. FitsInside g u limit (Given v))
      → IsOkWhere WantsMemory result (FitsInside g u limit Identity × ((j : ℕ) → j ≤ 60 → FitsInside g u limit (Union (2 ^ j))))
      → GivesPairs g limit (Cut g (Repetition r 0 None) u u) (unions_within r u (doubles 60)) result
  gives_all (Ok v) alike fits exact = (
    holds (Cut g (Repetition r 0 None) u u) (Union (2 ^ 60)) v all_leads leads_all alike fits,
    unions_fit g limit r u (doubles 60) (doubles_all (UnionFits g limit r u) 60 (λ j few. union_fits (2 ^ j) (exact.1 j few))),
  )
  gives_all (Err Memory) alike fits exact = tt
  gives_all (Err Wide) alike fits exact =
      wide_unless g limit (unions_within r u (doubles 60))
      (λ all.
      let each = λ (j : ℕ) (few : j ≤ 60). all_doubles (UnionFits g limit r u) 60 (fit_unions g limit r u (doubles 60) all) j few in
      let first : UnionFits g limit r u 1 = each 0 (omega arith) in
      exact not_memory (identity_fits g u body.good r (Some 1) limit first, λ j few. fits_union (2 ^ j) (each j few)))
