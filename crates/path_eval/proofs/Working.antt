-- What is worked out, from what its parts are.
use Rattle.std.proofs.Common.{◌≡◌, ◌≤◌, ℕ, List, [], ◌∷◌, ◌++◌, length, inl, inr, ⊎_elim, Option, Result, Ok, Err, refl, sym, subst}
use Rattle.itpg_base.specs.declared.object_number.ObjNo.{ObjNo}
use Rattle.itpg_base.specs.Graphs.{Graph, Good}
use Rattle.itpg_base.specs.Lists.{Among}
use Rattle.itpg_base.proofs.Lists.{append_second}
use Rattle.relation_rows.specs.declared.rows.Row.{Row}
use Rattle.relation_rows.specs.declared.times.OneRow.{OneRow}
use Rattle.relation_rows.specs.declared.rows.RelFault.{RelFault}
use Rattle.relation_rows.specs.declared.rows.RelFault.TheVariants.{Memory, Wide}
use Rattle.relation_rows.specs.Rows.{NormalRows}
use Rattle.relation_rows.specs.Answers.{Gives}
use Rattle.relation_rows.specs.Relations.{HasMiddlePoint, EitherHolds}
use Rattle.relation_rows.proofs.Alike.{rows_alike}
use Rattle.relation_rows.proofs.Listed.{rows_unique}
use Rattle.path_ast.specs.Terms.{PathTerm, OfTest, Forward, Backward, Next, Previous, Sequence, Choice, Repetition, TestTerm}
use Rattle.label_scope.specs.declared.scope.Scope.{Scope}
use Rattle.label_scope.specs.Narrowing.{Cut, narrowed}
use Rattle.label_scope.specs.Members.{worked, worked_conditions, middle, passed, member, axis_members, test_members, sequence_members, choice_members, repeated_members, members_between}
use Rattle.label_scope.proofs.Within.{narrowed_cut, widened_cut}
use Rattle.condition_eval.specs.Combined.{MarkedToItself}
use Rattle.condition_eval.specs.Marking.{AreMarks}
use Rattle.condition_eval.specs.Tested.{HoldsAt}
use Rattle.plan_cache.specs.RightRows.{AllFit}
use Rattle.path_eval.specs.WithinBoth.{AreWithinBoth}
use Rattle.path_eval.specs.Powers.{GivesMember, repetition_member, repetition_members}
use Rattle.path_eval.specs.Working.{WorksOutAs}
use Rattle.path_eval.proofs.WithinBoth.{test_within_both}
use Rattle.path_eval.proofs.Fitting.{fit_own, works_out, works_out_as}
use Rattle.path_eval.proofs.MembersWithin.{none_fit, fit_both}
use Rattle.path_eval.proofs.Joining.{sequence_from, from_sequence, choice_from, from_choice}

-- the members of a path are those between its narrowed scopes
pub members_are : (p : PathTerm) (a b : Scope) → members_between p (narrowed p a b).sources (narrowed p a b).targets ≡ worked p a b
members_are (OfTest c) a b = refl
members_are Forward a b = refl
members_are Backward a b = refl
members_are Next a b = refl
members_are Previous a b = refl
members_are (Sequence p q) a b = refl
members_are (Choice p q) a b = refl
members_are (Repetition r n m) a b = refl

-- the first of them is the path itself
first_member : (p : PathTerm) (a b : Scope) → Among (worked p a b) (member p (narrowed p a b).sources (narrowed p a b).targets)
first_member (OfTest c) a b = inl refl
first_member Forward a b = inl refl
first_member Backward a b = inl refl
first_member Next a b = inl refl
first_member Previous a b = inl refl
first_member (Sequence p q) a b = inl refl
first_member (Choice p q) a b = inl refl
first_member (Repetition r n m) a b = inl refl

module _ (g : Graph) (limit : ℕ) (good : Good g) where
  -- narrowing the scopes changes nothing
  pub unnarrowed : (p : PathTerm) (a b s t : Scope) → s ≡ (narrowed p a b).sources → t ≡ (narrowed p a b).targets
      → (result : Result (List Row) RelFault) → WorksOutAs result (Cut g p s t) g limit (members_between p s t) → WorksOutAs result (Cut g p a b) g limit (worked p a b)
  unnarrowed p a b s t e f result h =
      let k = subst (λ (v : Scope). WorksOutAs result (Cut g p v t) g limit (members_between p v t)) e h in
      let l = subst (λ (v : Scope). WorksOutAs result (Cut g p (narrowed p a b).sources v) g limit (members_between p (narrowed p a b).sources v)) f k in
      works_out_as g limit (Cut g p (narrowed p a b).sources (narrowed p a b).targets) (Cut g p a b) (members_between p (narrowed p a b).sources (narrowed p a b).targets) (worked p a b)
      (widened_cut p a b g) (λ x y c. narrowed_cut p a b g x y good c) (members_are p a b) result l

  pub axis_out : (p : PathTerm) (a b : Scope) (result : Result (List Row) RelFault) → Gives result (Cut g p a b) limit → WorksOutAs result (Cut g p a b) g limit (axis_members p a b)
  axis_out p a b = works_out g limit (member p a b) [] (Cut g p a b) (λ x y c. c) (λ x y c. c) (none_fit g limit)

  pub test_out : (c : TestTerm) (a b : Scope) (objects : List ObjNo) (are : AreWithinBoth a b g objects) (marks : List OneRow) → AreMarks objects (HoldsAt c g) marks → AllFit g limit (worked_conditions c a)
      → (result : Result (List Row) RelFault) → Gives result (MarkedToItself marks) limit → WorksOutAs result (Cut g (OfTest c) a b) g limit (test_members c a b)
  test_out c a b objects are marks is fit =
      let same = test_within_both g a b objects are c marks is in
      works_out g limit (member (OfTest c) a b) (worked_conditions c a) (MarkedToItself marks) (λ x y. (same x y).0) (λ x y. (same x y).1) fit

  pub sequence_out : (p q : PathTerm) (a b m : Scope) → m ≡ middle p q (record { sources = a; targets = b }) → (left right : List Row)
      → NormalRows (Cut g p a m) left × AllFit g limit (worked p a m) → NormalRows (Cut g q m b) right × AllFit g limit (worked q m b)
      → (result : Result (List Row) RelFault) → Gives result (HasMiddlePoint left right) limit → WorksOutAs result (Cut g (Sequence p q) a b) g limit (sequence_members p q a b)
  sequence_out p q a b m e left right first second =
      let l = subst (λ (v : Scope). NormalRows (Cut g p a v) left × AllFit g limit (worked p a v)) e first in
      let r = subst (λ (v : Scope). NormalRows (Cut g q v b) right × AllFit g limit (worked q v b)) e second in
      let mid = middle p q (record { sources = a; targets = b }) in
      works_out g limit (member (Sequence p q) a b) (worked p a mid ++ worked q mid b) (HasMiddlePoint left right) (sequence_from g good p q a b left right l.0 r.0) (from_sequence g good p q a b left right l.0 r.0)
      (fit_both g limit (worked p a mid) (worked q mid b) l.1 r.1)

  -- what is worked out within the scope of all that a repetition passes, after the members of its body
  pub repetition_out : (r : PathTerm) (n : ℕ) (m : Option ℕ) (a b u : Scope) → u ≡ passed r (record { sources = a; targets = b }) → AllFit g limit (worked r u u)
      → (result : Result (List Row) RelFault) → GivesMember g limit (repetition_member r n m a b) (repetition_members r u n m) result → WorksOutAs result (Cut g (Repetition r n m) a b) g limit (repeated_members r n m a b)
  repetition_out r n m a b u e fit result h =
      works_repeated r n m a b (passed r (record { sources = a; targets = b })) (subst (λ (v : Scope). AllFit g limit (worked r v v)) e fit) result (subst (λ (v : Scope). GivesMember g limit (repetition_member r n m a b) (repetition_members r v n m) result) e h)
    where
      works_repeated : (r : PathTerm) (n : ℕ) (m : Option ℕ) (a b u : Scope) → AllFit g limit (worked r u u) → (result : Result (List Row) RelFault) → GivesMember g limit (repetition_member r n m a b) (repetition_members r u n m) result
          → WorksOutAs result (Cut g (Repetition r n m) a b) g limit (member (Repetition r n m) a b ∷ (worked r u u ++ repetition_members r u n m))
      works_repeated r n m a b u fit (Ok rows) h = (h.0, fit_own g limit (member (Repetition r n m) a b) (worked r u u ++ repetition_members r u n m) (rows, h.0, h.1) (fit_both g limit (worked r u u) (repetition_members r u n m) fit h.2))
      works_repeated r n m a b u fit (Err Memory) h = tt
      works_repeated r n m a b u fit (Err Wide) h = record { member = h.member; among = ⊎_elim (λ i. inl i) (λ i. inr (append_second (worked r u u) (repetition_members r u n m) h.member i)) h.among; wide = h.wide }

  -- a relation whose members fit has few enough rows itself
  pub few_rows : (p : PathTerm) (a b : Scope) (rows : List Row) → NormalRows (Cut g p a b) rows → AllFit g limit (worked p a b) → length rows ≤ limit
  few_rows p a b rows normal all =
      let s = (narrowed p a b).sources in
      let t = (narrowed p a b).targets in
      let own = all (member p s t) (first_member p a b) in
      let same = rows_unique (Cut g p a b) rows own.0 normal (rows_alike (Cut g p s t) (Cut g p a b) (widened_cut p a b g) (λ x y c. narrowed_cut p a b g x y good c) own.0 own.1) in
      subst (λ (v : List Row). length v ≤ limit) (sym same) own.2

  pub choice_out : (p q : PathTerm) (a b : Scope) (left right : List Row) → NormalRows (Cut g p a b) left × AllFit g limit (worked p a b) → NormalRows (Cut g q a b) right × AllFit g limit (worked q a b)
      → (result : Result (List Row) RelFault) → Gives result (EitherHolds left right) limit → WorksOutAs result (Cut g (Choice p q) a b) g limit (choice_members p q a b)
  choice_out p q a b left right first second =
      works_out g limit (member (Choice p q) a b) (worked p a b ++ worked q a b) (EitherHolds left right) (choice_from g good p q a b left right first.0 second.0) (from_choice g good p q a b left right first.0 second.0)
      (fit_both g limit (worked p a b) (worked q a b) first.1 second.1)
