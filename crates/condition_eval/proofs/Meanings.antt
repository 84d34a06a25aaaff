-- What marks of tests say of the tests that are worked out from them.
use Rattle.std.proofs.Common.{◌≡◌, ◌↔◌, inl, inr, ⊎_elim, List, sym, subst}
use Rattle.itpg_base.specs.declared.object_number.ObjNo.{ObjNo}
use Rattle.itpg_base.specs.Spans.{Span}
use Rattle.itpg_base.specs.Graphs.{Graph}
use Rattle.itpg_base.specs.Points.{Point, IsAt}
use Rattle.relation_rows.specs.declared.rows.Row.{Row}
use Rattle.relation_rows.specs.declared.times.OneRow.{OneRow}
use Rattle.relation_rows.specs.Rows.{RowsHold, NormalRows}
use Rattle.relation_rows.specs.Relations.{IsOneOf}
use Rattle.relation_rows.proofs.Alike.{hold_only}
use Rattle.relation_rows.proofs.Runs.{times_alike}
use Rattle.relation_rows.proofs.TimeLaws.{times_unique}
use Rattle.path_ast.specs.Terms.{PathTerm, TestTerm, OfTest, Condition, Conjunction, Disjunction, Negation}
use Rattle.path_ast.specs.Meaning.{Rel}
use Rattle.path_ast.proofs.Pairs.{ends_at}
use Rattle.label_scope.specs.declared.scope.Scope.{Scope}
use Rattle.label_scope.specs.declared.scope.Scope.TheVariants.{All}
use Rattle.label_scope.specs.Scopes.{IsWithin}
use Rattle.label_scope.specs.Narrowing.{Cut}
use Rattle.label_scope.proofs.Within.{within_all}
use Rattle.condition_eval.specs.Marking.{ArePoints, AreMarks}
use Rattle.condition_eval.specs.Tested.{HoldsAt, StartsAt, Stand, HasHorizon}
use Rattle.condition_eval.specs.Combined.{BothMark, EitherMarks, IsUnmarked, MarkedToItself}
use Rattle.condition_eval.specs.Within.{AreWithin}
use Rattle.condition_eval.proofs.Marked.{marked, marked_one, marked_holds}
use Rattle.condition_eval.proofs.Points.{in_horizon}

-- facts that are the same of the points of the objects have the same marks
pub marks_alike : (objects : List ObjNo) (P Q : Point → Type 0) (marks : List OneRow) → ((x : Point) → IsOneOf objects x.object → P x → Q x) → ((x : Point) → IsOneOf objects x.object → Q x → P x)
    → AreMarks objects P marks → AreMarks objects Q marks
marks_alike objects P Q marks f g =
    times_alike (λ o t. IsOneOf objects o × P (record { object = o; moment = t })) (λ o t. IsOneOf objects o × Q (record { object = o; moment = t }))
    (λ o t h. (h.0, f (record { object = o; moment = t }) h.0 h.1)) (λ o t h. (h.0, g (record { object = o; moment = t }) h.0 h.1)) marks

module _ (g : Graph) (objects : List ObjNo) where
  pub negated : (c : TestTerm) (horizon : Span) (own marks : List OneRow) → HasHorizon g horizon → Stand g objects → AreMarks objects (HoldsAt c g) own → AreMarks objects (IsUnmarked horizon own) marks
      → AreMarks objects (HoldsAt (Negation c) g) marks
  negated c horizon own marks begun stand is =
      marks_alike objects (IsUnmarked horizon own) (HoldsAt (Negation c) g) marks
      (λ x o h.
      let at : IsAt g x = record { stands = stand x.object o; within = (in_horizon g horizon begun x.moment).0 h.0 } in
      (at, λ sat. h.1 (marked objects (HoldsAt c g) own is x o (at, sat))))
      (λ x o h. ((in_horizon g horizon begun x.moment).1 (let at = h.0 in at.within), λ k. h.1 (marked_holds objects (HoldsAt c g) own is x k).1))

  pub both_hold : (c d : TestTerm) (own other marks : List OneRow) → AreMarks objects (HoldsAt c g) own → AreMarks objects (HoldsAt d g) other → ArePoints (BothMark own other) marks
      → AreMarks objects (HoldsAt (Conjunction c d) g) marks
  both_hold c d own other marks is also =
      times_alike (λ o t. BothMark own other (record { object = o; moment = t })) (λ o t. IsOneOf objects o × HoldsAt (Conjunction c d) g (record { object = o; moment = t }))
      (λ o t h. let a = is.only o t h.0 in let b = also.only o t h.1 in (a.0, (a.1.0, (a.1.1, b.1.1))))
      (λ o t h. let k = h.1 in (is.whole o t (h.0, (k.0, k.1.0)), also.whole o t (h.0, (k.0, k.1.1))))
      marks

  pub either_holds : (c d : TestTerm) (own other marks : List OneRow) → AreMarks objects (HoldsAt c g) own → AreMarks objects (HoldsAt d g) other → ArePoints (EitherMarks own other) marks
      → AreMarks objects (HoldsAt (Disjunction c d) g) marks
  either_holds c d own other marks is also =
      times_alike (λ o t. EitherMarks own other (record { object = o; moment = t })) (λ o t. IsOneOf objects o × HoldsAt (Disjunction c d) g (record { object = o; moment = t }))
      (λ o t h. ⊎_elim (λ k. let a = is.only o t k in (a.0, (a.1.0, inl a.1.1))) (λ k. let b = also.only o t k in (b.0, (b.1.0, inr b.1.1))) h)
      (λ o t h. let k = h.1 in ⊎_elim (λ s. inl (is.whole o t (h.0, (k.0, s)))) (λ s. inr (also.whole o t (h.0, (k.0, s)))) k.1)
      marks

  -- where the rows hold what the path leads to from the objects, they start where its condition holds
  pub condition_holds : (p : PathTerm) (rows : List Row) (marks : List OneRow) → ((x y : Point) → IsOneOf objects x.object → RowsHold rows x y ↔ Rel p g x y) → AreMarks objects (StartsAt rows g) marks
      → AreMarks objects (HoldsAt (Condition p) g) marks
  condition_holds p rows marks same =
      marks_alike objects (StartsAt rows g) (HoldsAt (Condition p) g) marks
      (λ x o h. let s = h.1 in (h.0, (s.0, (same x s.0 o).0 s.1)))
      (λ x o h. let s = h.1 in (h.0, (s.0, (same x s.0 o).1 s.1)))

  -- the relation of the marks is what the test leads between from the objects
  pub test_leads : (c : TestTerm) (marks : List OneRow) → AreMarks objects (HoldsAt c g) marks → (x y : Point) → MarkedToItself marks x y ↔ (Rel (OfTest c) g x y × IsOneOf objects x.object)
  test_leads c marks is x y = (
    λ h. let k = marked_holds objects (HoldsAt c g) marks is x h.1 in ((k.0, h.0, k.1), marked_one objects (HoldsAt c g) marks is x h.1),
    λ h. let r = h.0 in (r.1, marked objects (HoldsAt c g) marks is x h.1 (r.0, r.2)),
  )

-- the same where the objects are those within a scope
module _ (g : Graph) (scope : Scope) (objects : List ObjNo) (are : AreWithin scope g objects) where
  pub scoped_condition : (p : PathTerm) (rows : List Row) (marks : List OneRow) → NormalRows (Cut g p scope All) rows → AreMarks objects (StartsAt rows g) marks → AreMarks objects (HoldsAt (Condition p) g) marks
  scoped_condition p rows marks normal =
      condition_holds g objects p rows marks
      (λ x y o. (
        λ h. (hold_only (Cut g p scope All) rows normal x y h).leads,
        λ h. normal.whole x y (record { leads = h; source = are.within x.object o; target = within_all g y (ends_at p g x y h) }),
      ))

  pub scoped_test : (c : TestTerm) (marks : List OneRow) → AreMarks objects (HoldsAt c g) marks → (x y : Point) → MarkedToItself marks x y ↔ Cut g (OfTest c) scope scope x y
  scoped_test c marks is x y = (
    λ h.
        let k = (test_leads g objects c marks is x y).0 h in
        let source = are.within x.object k.1 in
        record { leads = k.0; source = source; target = subst (λ (v : Point). IsWithin scope g v.object) (sym h.0) source },
    λ h. let r = h.leads in let at = r.0 in (test_leads g objects c marks is x y).1 (r, are.whole x.object at.stands h.source),
  )

-- marks of one fact on the same objects are one list
pub marks_unique : (objects : List ObjNo) (Holds : Point → Type 0) (xs ys : List OneRow) → AreMarks objects Holds xs → AreMarks objects Holds ys → xs ≡ ys
marks_unique objects Holds = times_unique (λ o t. IsOneOf objects o × Holds (record { object = o; moment = t }))
