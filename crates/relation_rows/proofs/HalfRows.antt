-- Ways by rows of which one half is the other behind a step.
use Rattle.std.proofs.Common.{◌≡◌, ◌↔◌, inl, inr, ℕ, List, [], ◌∷◌, ◌++◌, Option, None, Some, Result, Ok, Err, refl, sym, ◌∙◌, ap, subst, append_assoc, append-nil}
use Rattle.std.specs.Prelude.{slice_get, IfOk, IfSome}
use Rattle.itpg_base.specs.Points.{Point, Relation}
use Rattle.itpg_base.specs.Lists.{Among, Ordered}
use Rattle.itpg_base.proofs.Lists.{among_append, append_first, append_second, ordered_first, ordered_second}
use Rattle.relation_rows.specs.declared.rows.Row.{Row}
use Rattle.relation_rows.specs.declared.rows.RelFault.{RelFault}
use Rattle.relation_rows.specs.Rows.{InRow, RowBefore, RowsHold, NormalRows}
use Rattle.relation_rows.specs.Answers.{Gives}
use Rattle.relation_rows.specs.Relations.{EitherHolds, HasMiddlePoint}
use Rattle.relation_rows.proofs.Alike.{rows_alike, rows_hold, hold_only}
use Rattle.relation_rows.proofs.Giving.{gives_alike}

pub first_in : (rows : List Row) (r : Row) → Some r ≡ slice_get rows 0 → Among rows r
first_in [] r e = let none : ⊥ = cc in absurd none
first_in (s ∷ rows) r e = inl (cc)

-- what a call gives that gave rows
pub given : (R : Relation) (limit : ℕ) (told : Result (List Row) RelFault) (found : Option (List Row)) (rows : List Row) → Gives told R limit → IfSome found (λ all. told ≡ Ok all) → found ≡ Some rows → NormalRows R rows
given R limit told found rows gives is e =
    let ok : told ≡ Ok rows = subst (λ (v : Option (List Row)). IfSome v (λ all. told ≡ Ok all)) e is in
    (subst (λ (v : Result (List Row) RelFault). Gives v R limit) ok gives).0

-- rows that are equal to the normal ones of a relation hold it
pub told_by : (R : Relation) (rows half : List Row) → NormalRows R rows → rows ≡ half → (x y : Point) → RowsHold half x y ↔ R x y
told_by R rows half n e x y = (
  λ h. hold_only R rows n x y (subst (λ (v : List Row). RowsHold v x y) (sym e) h),
  λ h. subst (λ (v : List Row). RowsHold v x y) e (rows_hold R rows n x y h),
)

pub gave : (R : Relation) (limit : ℕ) (told : Result (List Row) RelFault) (rows : List Row) → Gives told R limit → told ≡ Ok rows → NormalRows R rows
gave R limit told rows gives e = (subst (λ (v : Result (List Row) RelFault). Gives v R limit) e gives).0

-- what is so of each list that may be found, where something else is
pub so_of_found : {X : Type 0} (P Q : List Row → Type 0) (told : Result (Option (List Row)) X) → ((rows : List Row) → P rows → Q rows) → IfOk told (λ found. IfSome found P) → IfOk told (λ found. IfSome found Q)
so_of_found P Q (Ok (Some rows)) so p = so rows p
so_of_found P Q (Ok None) so p = p
so_of_found P Q (Err e) so p = p

-- rows in three parts, the second of which is the first behind a step
module _ (rows front last first half : List Row) (parts : rows ≡ front ++ last) (halves : front ≡ first ++ half) where
  pub in_first : (r : Row) → Among first r → Among rows r
  in_first r a = subst (λ (v : List Row). Among v r) (sym parts) (append_first front last r (subst (λ (v : List Row). Among v r) (sym halves) (append_first first half r a)))

  pub in_half : (r : Row) → Among half r → Among rows r
  in_half r a = subst (λ (v : List Row). Among v r) (sym parts) (append_first front last r (subst (λ (v : List Row). Among v r) (sym halves) (append_second first half r a)))

  pub in_last : (r : Row) → Among last r → Among rows r
  in_last r a = subst (λ (v : List Row). Among v r) (sym parts) (append_second front last r a)

  pub first_ordered : Ordered RowBefore rows → Ordered RowBefore first
  first_ordered order = ordered_first RowBefore first half (subst (λ (v : List Row). Ordered RowBefore v) halves (ordered_first RowBefore front last (subst (λ (v : List Row). Ordered RowBefore v) parts order)))

  pub all_by_halves : (second step done moved both more all : List Row) → ((x y : Point) → RowsHold half x y ↔ HasMiddlePoint step first x y) → NormalRows (HasMiddlePoint first second) done → NormalRows (HasMiddlePoint step done) moved
      → NormalRows (EitherHolds done moved) both → NormalRows (HasMiddlePoint last second) more → NormalRows (EitherHolds both more) all → NormalRows (HasMiddlePoint rows second) all
  all_by_halves second step done moved both more all behind nd nm nb nl n = rows_alike (EitherHolds both more) (HasMiddlePoint rows second) to from all n
    where
      moved_on : (x y : Point) → HasMiddlePoint step done x y → HasMiddlePoint rows second x y
      moved_on x y w =
          let f = hold_only (HasMiddlePoint first second) done nd w.0 y w.2 in
          let h = (behind x f.0).1 (w.0, w.1, f.1) in
          (f.0, (h.0, in_half h.0 h.1, h.2), f.2)

      before : (x y : Point) → HasMiddlePoint first second x y → HasMiddlePoint rows second x y
      before x y w = (w.0, (w.1.0, in_first w.1.0 w.1.1, w.1.2), w.2)

      to : (x y : Point) → EitherHolds both more x y → HasMiddlePoint rows second x y
      to x y (inl h) = elim (hold_only (EitherHolds done moved) both nb x y h) [
        | inl d ↦ before x y (hold_only (HasMiddlePoint first second) done nd x y d)
        | inr m ↦ moved_on x y (hold_only (HasMiddlePoint step done) moved nm x y m)
      ]
      to x y (inr h) = let w = hold_only (HasMiddlePoint last second) more nl x y h in (w.0, (w.1.0, in_last w.1.0 w.1.1, w.1.2), w.2)

      by_first : (x y : Point) → HasMiddlePoint first second x y → EitherHolds both more x y
      by_first x y w = inl (rows_hold (EitherHolds done moved) both nb x y (inl (rows_hold (HasMiddlePoint first second) done nd x y w)))

      by_half : (x y m : Point) → RowsHold half x m → RowsHold second m y → EitherHolds both more x y
      by_half x y m h s =
          let w = (behind x m).0 h in
          let d = rows_hold (HasMiddlePoint first second) done nd w.0 y (m, w.2, s) in
          inl (rows_hold (EitherHolds done moved) both nb x y (inr (rows_hold (HasMiddlePoint step done) moved nm x y (w.0, w.1, d))))

      in_front : (x y m : Point) (r : Row) → InRow r x m → RowsHold second m y → Among front r → EitherHolds both more x y
      in_front x y m r i s a = elim (among_append first half r (subst (λ (v : List Row). Among v r) halves a)) [
        | inl f ↦ by_first x y (m, (r, f, i), s)
        | inr h ↦ by_half x y m (r, h, i) s
      ]

      from : (x y : Point) → HasMiddlePoint rows second x y → EitherHolds both more x y
      from x y w = elim (among_append front last w.1.0 (subst (λ (v : List Row). Among v w.1.0) parts w.1.1)) [
        | inl a ↦ in_front x y w.0 w.1.0 w.1.2 w.2 a
        | inr a ↦ inr (rows_hold (HasMiddlePoint last second) more nl x y (w.0, (w.1.0, a, w.1.2), w.2))
      ]

-- the ways by the rows that were read
pub record HaveRun (rows second left all : List Row) : Type 0 where
  pub read : List Row
  pub parts : rows ≡ read ++ left
  pub normal : NormalRows (HasMiddlePoint read second) all

pub none_run : (rows second all : List Row) → all ≡ [] → HaveRun rows second rows all
none_run rows second all e = record { read = []; parts = refl; normal = rw e (record { whole = λ x y w. absurd w.1.1; once = λ r s x y a. absurd a; each = λ r a. absurd a; order = tt }) }

pub next_run : (rows second left all : List Row) → HaveRun rows second left all → (run later more both : List Row) → left ≡ run ++ later → NormalRows (HasMiddlePoint run second) more → NormalRows (EitherHolds all more) both → HaveRun rows second later both
next_run rows second left all h run later more both parts n nb = record {
  read = h.read ++ run;
  parts = h.parts ∙ ap (λ (v : List Row). h.read ++ v) parts ∙ sym (append_assoc h.read run later);
  normal = rows_alike (EitherHolds all more) (HasMiddlePoint (h.read ++ run) second)
      (λ x y. λ e. elim e [
        | inl a ↦ let w = hold_only (HasMiddlePoint h.read second) all h.normal x y a in (w.0, (w.1.0, append_first h.read run w.1.0 w.1.1, w.1.2), w.2)
        | inr b ↦ let w = hold_only (HasMiddlePoint run second) more n x y b in (w.0, (w.1.0, append_second h.read run w.1.0 w.1.1, w.1.2), w.2)
      ])
      (λ x y w. elim (among_append h.read run w.1.0 w.1.1) [
        | inl a ↦ inl (rows_hold (HasMiddlePoint h.read second) all h.normal x y (w.0, (w.1.0, a, w.1.2), w.2))
        | inr a ↦ inr (rows_hold (HasMiddlePoint run second) more n x y (w.0, (w.1.0, a, w.1.2), w.2))
      ]) both nb;
}

pub all_run : (rows second left all : List Row) → left ≡ [] → HaveRun rows second left all → NormalRows (HasMiddlePoint rows second) all
all_run rows second left all e h = subst (λ (v : List Row). NormalRows (HasMiddlePoint v second) all) (sym (h.parts ∙ ap (λ (v : List Row). h.read ++ v) e ∙ append-nil h.read)) h.normal

-- what is left of rows stands in their order, and each of it is one of them
pub left_among : (rows second left all : List Row) → HaveRun rows second left all → (r : Row) → Among left r → Among rows r
left_among rows second left all h r a = subst (λ (v : List Row). Among v r) (sym h.parts) (append_second h.read left r a)

pub left_ordered : (rows second left all : List Row) → HaveRun rows second left all → Ordered RowBefore rows → Ordered RowBefore left
left_ordered rows second left all h order = ordered_second RowBefore h.read left (subst (λ (v : List Row). Ordered RowBefore v) h.parts order)

-- what is given of the rows of a relation is given of it
pub gives_all : (R : Relation) (rows : List Row) (limit : ℕ) (told : Result (List Row) RelFault) → NormalRows R rows → Gives told (RowsHold rows) limit → Gives told R limit
gives_all R rows limit told n = gives_alike (RowsHold rows) R (hold_only R rows n) (rows_hold R rows n) limit told
