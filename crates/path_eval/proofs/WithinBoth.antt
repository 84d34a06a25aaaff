-- Tests, conditions and the identity on the objects within two scopes, and how these objects are found.
use Rattle.std.proofs.Common.{◌≡◌, ◌↔◌, ⊎_elim, ℕ, ◌+◌, ◌<◌, ◌≤◌, List, [], ◌∷◌, ◌++◌, length, slice_index_or, take, refl, sym, subst, Result}
use Rattle.std.proofs.lemmas.List.{take_more, take_all}
use Rattle.itpg_base.specs.declared.object_number.ObjNo.{ObjNo}
use Rattle.itpg_base.specs.Spans.{Span}
use Rattle.itpg_base.specs.Graphs.{Graph, Good, Stands}
use Rattle.itpg_base.specs.Points.{Point, IsAt}
use Rattle.itpg_base.specs.Lists.{Among}
use Rattle.itpg_base.proofs.Lists.{among_append, append_first, append_second, append_ordered, ordered_at, among_at}
use Rattle.relation_rows.specs.declared.rows.Row.{Row}
use Rattle.relation_rows.specs.declared.times.OneRow.{OneRow}
use Rattle.relation_rows.specs.declared.rows.RelFault.{RelFault}
use Rattle.relation_rows.specs.Rows.{NormalRows}
use Rattle.relation_rows.specs.Answers.{Gives}
use Rattle.relation_rows.specs.Relations.{Rise, IsItself}
use Rattle.relation_rows.proofs.Alike.{hold_only}
use Rattle.relation_rows.proofs.Giving.{gives_alike}
use Rattle.path_ast.specs.Terms.{PathTerm, OfTest, TestTerm, Condition}
use Rattle.path_ast.proofs.Pairs.{ends_at}
use Rattle.label_scope.specs.declared.scope.Scope.{Scope}
use Rattle.label_scope.specs.declared.scope.Scope.TheVariants.{All}
use Rattle.label_scope.specs.Scopes.{IsWithin}
use Rattle.label_scope.specs.Narrowing.{Cut}
use Rattle.label_scope.proofs.Within.{within_all}
use Rattle.condition_eval.specs.Combined.{MarkedToItself}
use Rattle.condition_eval.specs.Marking.{AreMarks}
use Rattle.condition_eval.specs.Tested.{HoldsAt, StartsAt, Stand, HasHorizon}
use Rattle.condition_eval.specs.Filtered.{AreThoseWith}
use Rattle.condition_eval.specs.Within.{AreWithin}
use Rattle.condition_eval.proofs.Meanings.{condition_holds, test_leads}
use Rattle.condition_eval.proofs.Points.{in_horizon}
use Rattle.path_eval.specs.WithinBoth.{RiseWithin, AreWithinBoth, AreThoseWithin}
use Rattle.path_eval.specs.Powers.{SameWithinBoth}

-- where the rows of a path from a scope start marks its condition, on objects of the scope
pub condition_within : (g : Graph) (a : Scope) (objects : List ObjNo) → RiseWithin a g objects → (p : PathTerm) (rows : List Row) (marks : List OneRow) → NormalRows (Cut g p a All) rows
    → AreMarks objects (StartsAt rows g) marks → AreMarks objects (HoldsAt (Condition p) g) marks
condition_within g a objects are p rows marks normal =
    condition_holds g objects p rows marks
    (λ x y o. (
      λ h. (hold_only (Cut g p a All) rows normal x y h).leads,
      λ h. normal.whole x y (record { leads = h; source = are.within x.object o; target = within_all g y (ends_at p g x y h) }),
    ))

module _ (g : Graph) (a b : Scope) (objects : List ObjNo) (are : AreWithinBoth a b g objects) where
  -- the relation of the marks is the test, as a path, between both scopes
  pub test_within_both : (c : TestTerm) (marks : List OneRow) → AreMarks objects (HoldsAt c g) marks → (x y : Point) → MarkedToItself marks x y ↔ Cut g (OfTest c) a b x y
  test_within_both c marks is x y = (
    λ h.
        let k = (test_leads g objects c marks is x y).0 h in
        record { leads = k.0; source = (are.first).within x.object k.1; target = subst (λ (v : Point). IsWithin b g v.object) (sym h.0) (are.second x.object k.1) },
    λ h. let r = h.leads in let at = r.0 in (test_leads g objects c marks is x y).1 (r, are.whole x.object at.stands h.source (subst (λ (v : Point). IsWithin b g v.object) r.1 h.target)),
  )

  module _ (good : Good g) (horizon : Span) (begun : HasHorizon g horizon) where
    itself_same : (x y : Point) → IsItself objects horizon x y → SameWithinBoth g a b x y
    itself_same x y h =
        let at : IsAt g x = record { stands = (are.first).stand x.object h.object; within = (in_horizon g horizon begun x.moment).0 h.moment } in
        (record { good = good; at = at; within = (are.first).within x.object h.object }, are.second x.object h.object, h.same)

    same_itself : (x y : Point) → SameWithinBoth g a b x y → IsItself objects horizon x y
    same_itself x y h =
        let i = h.0 in
        let at = i.at in
        record { same = h.2; object = are.whole x.object at.stands i.within h.1; moment = (in_horizon g horizon begun x.moment).1 at.within }

    pub identity_within_both : (limit : ℕ) (result : Result (List Row) RelFault) → Gives result (IsItself objects horizon) limit → Gives result (SameWithinBoth g a b) limit
    identity_within_both limit result given = gives_alike (IsItself objects horizon) (SameWithinBoth g a b) itself_same same_itself limit result given

none_taken : (xs : List ObjNo) (o : ObjNo) → Among (take 0 xs) o → ⊥
none_taken [] o h = h
none_taken (x ∷ xs) o h = h

-- those of rising objects that are within the scope, one after the other
module _ (scope : Scope) (g : Graph) (objects : List ObjNo) (rise : Rise objects) where
  pub none_kept : (kept : List ObjNo) → kept ≡ [] → AreThoseWithin scope g (take 0 objects) kept
  none_kept kept e = subst (λ (v : List ObjNo). AreThoseWithin scope g (take 0 objects) v) (sym e)
      (record { rise = tt; there = λ o i. absurd i; within = λ o i. absurd i; whole = λ o i w. absurd (none_taken objects o i) })

  module _ (i : ℕ) (d : ObjNo) (lt : i < length objects) (kept : List ObjNo) (f : AreThoseWithin scope g (take i objects) kept) where
    abbrev one : ObjNo
    one = slice_index_or objects i d

    more : take (i + 1) objects ≡ take i objects ++ one ∷ []
    more = take_more objects i d lt

    pub one_left : (IsWithin scope g (slice_index_or objects i d).0 → ⊥) → AreThoseWithin scope g (take (i + 1) objects) kept
    one_left out = subst (λ (v : List ObjNo). AreThoseWithin scope g v kept) (sym more) (record {
      rise = f.rise;
      there = λ o h. append_first (take i objects) (one ∷ []) o (f.there o h);
      within = f.within;
      whole = λ o h w. ⊎_elim
          (λ a. f.whole o a w)
          (λ a. ⊎_elim (λ (e : one ≡ o). absurd (out (subst (λ (v : ObjNo). IsWithin scope g v.0) (sym e) w))) (λ k. absurd k) a)
          (among_append (take i objects) (one ∷ []) o h);
    })

    -- the next one is behind all that are kept
    kept_below : (o p : ObjNo) → Among kept o → Among (one ∷ []) p → o.0 < p.0
    kept_below o p h k = ⊎_elim
        (λ (q : one ≡ p). subst (λ (v : ObjNo). o.0 < v.0) q (ordered_at (λ (o p : ObjNo). o.0 < p.0) objects i d rise lt o (f.there o h)))
        (λ n. absurd n)
        k

    pub one_kept : IsWithin scope g (slice_index_or objects i d).0 → (next : List ObjNo) → next ≡ kept ++ slice_index_or objects i d ∷ [] → AreThoseWithin scope g (take (i + 1) objects) next
    one_kept in_it next e = subst (λ (v : List ObjNo). AreThoseWithin scope g (take (i + 1) objects) v) (sym e) (subst (λ (v : List ObjNo). AreThoseWithin scope g v (kept ++ one ∷ [])) (sym more) (record {
      rise = append_ordered (λ (o p : ObjNo). o.0 < p.0) kept (one ∷ []) f.rise (λ o k. absurd k, tt) kept_below;
      there = λ o h. ⊎_elim (λ a. append_first (take i objects) (one ∷ []) o (f.there o a)) (λ a. append_second (take i objects) (one ∷ []) o a) (among_append kept (one ∷ []) o h);
      within = λ o h. ⊎_elim (λ a. f.within o a) (λ a. ⊎_elim (λ (q : one ≡ o). subst (λ (v : ObjNo). IsWithin scope g v.0) q in_it) (λ n. absurd n) a) (among_append kept (one ∷ []) o h);
      whole = λ o h w. ⊎_elim (λ a. append_first kept (one ∷ []) o (f.whole o a w)) (λ a. append_second kept (one ∷ []) o a) (among_append (take i objects) (one ∷ []) o h);
    }))

  pub all_kept : (i : ℕ) (kept : List ObjNo) → length objects ≤ i → AreThoseWithin scope g (take i objects) kept → AreThoseWithin scope g objects kept
  all_kept i kept le = subst (λ (v : List ObjNo). AreThoseWithin scope g v kept) (take_all i objects le)

pub stands_at : (g : Graph) (objects : List ObjNo) → Stand g objects → (i : ℕ) (d : ObjNo) → i < length objects → Stands g (slice_index_or objects i d).0
stands_at g objects stand i d lt = stand (slice_index_or objects i d).0 (slice_index_or objects i d, among_at objects i d lt, refl)

-- of the objects within one scope those that are within the other are within both
pub both_of : (a b : Scope) (g : Graph) (objects given kept : List ObjNo) → AreWithin a g objects → given ≡ objects → AreThoseWithin b g given kept → AreWithinBoth a b g kept
both_of a b g objects given kept are e those =
    let t = subst (λ (v : List ObjNo). AreThoseWithin b g v kept) e those in
    record {
      first = record { rise = t.rise; stand = λ o h. are.stand o (h.0, t.there h.0 h.1, h.2); within = λ o h. are.within o (h.0, t.there h.0 h.1, h.2) };
      second = λ o h. subst (IsWithin b g) h.2 (t.within h.0 h.1);
      whole = λ o stands s u. let k = are.whole o stands s in (k.0, t.whole k.0 k.1 (subst (IsWithin b g) (sym k.2) u), k.2);
    }

-- those of the objects of which a test holds are within the scope too
pub kept_within : (c : TestTerm) (a : Scope) (g : Graph) (objects those : List ObjNo) → AreThoseWith c g objects those → RiseWithin a g objects → RiseWithin a g those
kept_within c a g objects those kept are = record {
  rise = kept.rise;
  stand = λ o h. are.stand o (h.0, kept.there h.0 h.1, h.2);
  within = λ o h. are.within o (h.0, kept.there h.0 h.1, h.2);
}
