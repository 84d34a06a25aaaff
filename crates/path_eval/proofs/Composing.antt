-- What the operations on rows say of relations that are written down.
use Rattle.std.proofs.Common.{◌≡◌, ℕ, List, Result, Ok, Err, IfOk, inl, inr, refl, subst}
use Rattle.itpg_base.specs.declared.object_number.ObjNo.{ObjNo}
use Rattle.itpg_base.specs.Spans.{Span}
use Rattle.itpg_base.specs.Graphs.{Graph, Good}
use Rattle.itpg_base.specs.Points.{Point, IsAt}
use Rattle.relation_rows.specs.declared.rows.Row.{Row}
use Rattle.relation_rows.specs.declared.rows.RelFault.{RelFault}
use Rattle.relation_rows.specs.declared.rows.RelFault.TheVariants.{Memory, Wide}
use Rattle.relation_rows.specs.Rows.{RowsHold, NormalRows, IsRelation}
use Rattle.relation_rows.specs.Answers.{Gives}
use Rattle.relation_rows.specs.Relations.{EitherHolds, HasMiddlePoint, IsBetween, IsItself}
use Rattle.relation_rows.proofs.Giving.{gives_alike}
use Rattle.relation_rows.proofs.Alike.{rows_alike, hold_only, wide_apart}
use Rattle.relation_rows.proofs.Listed.{rows_unique}
use Rattle.condition_eval.specs.Within.{AreWithin}
use Rattle.condition_eval.specs.Tested.{HasHorizon}
use Rattle.condition_eval.proofs.Points.{in_horizon}
use Rattle.label_scope.specs.declared.scope.Scope.{Scope}
use Rattle.repeat_engine.specs.Composed.{IsOkWhere}
use Rattle.repeat_engine.specs.Relations.{Given, Union, Composition}
use Rattle.path_eval.specs.Powers.{SamePoint, Written, Leads, LeadAlike, FitsInside, HeldBetween}

-- the fault is want of memory
abbrev pub WantsMemory : RelFault → Type 0
WantsMemory fault = fault ≡ Memory

module _ (g : Graph) (u : Scope) (w : Written) (limit : ℕ) where
  -- what an answer with a limit says where the relation is what is written down
  pub value_of : (result : Result (List Row) RelFault) → Gives result (Leads g u w) limit → IfOk result (λ v. LeadAlike g u (Given v) w)
  value_of (Ok rows) h = record { there = hold_only (Leads g u w) rows h.0; back = (h.0).whole }
  value_of (Err fault) h = tt

  pub exact_of : (result : Result (List Row) RelFault) → Gives result (Leads g u w) limit → IsOkWhere WantsMemory result (FitsInside g u limit w)
  exact_of (Ok rows) h = (rows, h.0, h.1)
  exact_of (Err Memory) h = λ other fits. other refl
  exact_of (Err Wide) h = λ other fits. wide_apart (Leads g u w) limit fits h

-- what was made of two relations, together with further rows
module _ (g : Graph) (u : Scope) (base x y made : List Row) (is_made : NormalRows (HasMiddlePoint x y) made) where
  abbrev pub Onto : Written
  Onto = Union (Given base) (Composition (Given x) (Given y))

  pub onto_gives : (limit : ℕ) (result : Result (List Row) RelFault) → Gives result (EitherHolds base made) limit → Gives result (Leads g u Onto) limit
  onto_gives =
      gives_alike (EitherHolds base made) (Leads g u Onto)
      (λ a b h. elim h [ inl left ↦ inl left | inr right ↦ inr (hold_only (HasMiddlePoint x y) made is_made a b right) ])
      (λ a b h. elim h [ inl left ↦ inl left | inr right ↦ inr (is_made.whole a b right) ])

-- relations that lead alike have the same rows
pub same_rows : (g : Graph) (u : Scope) (xs ys : List Row) → IsRelation xs → IsRelation ys → LeadAlike g u (Given xs) (Given ys) → xs ≡ ys
same_rows g u xs ys a b alike = rows_unique (RowsHold xs) xs ys a.normal (rows_alike (RowsHold ys) (RowsHold xs) alike.back alike.there ys b.normal)

pub alike_rows : (g : Graph) (u : Scope) (xs ys : List Row) → xs ≡ ys → LeadAlike g u (Given xs) (Given ys)
alike_rows g u xs ys e = subst (λ (v : List Row). LeadAlike g u (Given xs) (Given v)) e (record { there = λ x y h. h; back = λ x y h. h })

-- the rows that are kept between two scopes
module _ (g : Graph) (rows : List Row) (a b : Scope) (sources targets : List ObjNo) (at_source : AreWithin a g sources) (at_target : AreWithin b g targets) where
  in_scopes : (x y : Point) → IsBetween rows sources targets x y → HeldBetween g rows a b x y
  in_scopes x y h = record {
    held = h.held;
    source = (at_source.stand x.object h.source, at_source.within x.object h.source);
    target = (at_target.stand y.object h.target, at_target.within y.object h.target);
  }

  in_lists : (x y : Point) → HeldBetween g rows a b x y → IsBetween rows sources targets x y
  in_lists x y h =
      let source = h.source in let target = h.target in
      record { held = h.held; source = at_source.whole x.object source.0 source.1; target = at_target.whole y.object target.0 target.1 }

  pub cut_normal : {E : Type 0} (result : Result (List Row) E) → IfOk result (λ kept. NormalRows (IsBetween rows sources targets) kept) → IfOk result (λ kept. NormalRows (HeldBetween g rows a b) kept)
  cut_normal (Ok kept) n = rows_alike (IsBetween rows sources targets) (HeldBetween g rows a b) in_scopes in_lists kept n
  cut_normal (Err e) n = tt

-- the identity on the objects within a scope, over the horizon
module _ (g : Graph) (good : Good g) (scope : Scope) (objects : List ObjNo) (are : AreWithin scope g objects) (horizon : Span) (begun : HasHorizon g horizon) where
  itself_inside : (x y : Point) → IsItself objects horizon x y → SamePoint g scope x y
  itself_inside x y h =
      let at : IsAt g x = record { stands = are.stand x.object h.object; within = (in_horizon g horizon begun x.moment).0 h.moment } in
      (record { good = good; at = at; within = are.within x.object h.object }, h.same)

  inside_itself : (x y : Point) → SamePoint g scope x y → IsItself objects horizon x y
  inside_itself x y h =
      let i = h.0 in
      let at = i.at in
      record { same = h.1; object = are.whole x.object at.stands i.within; moment = (in_horizon g horizon begun x.moment).1 at.within }

  pub identity_gives : (limit : ℕ) (result : Result (List Row) RelFault) → Gives result (IsItself objects horizon) limit → Gives result (SamePoint g scope) limit
  identity_gives limit result given = gives_alike (IsItself objects horizon) (SamePoint g scope) itself_inside inside_itself limit result given
