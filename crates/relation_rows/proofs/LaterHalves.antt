-- Ways that go on by rows of which one half is the other with a step behind it.
use Rattle.std.proofs.Common.{◌≡◌, ◌↔◌, inl, inr, List, [], ◌++◌, refl, sym, ◌∙◌, ap, subst, append_assoc, append-nil}
use Rattle.itpg_base.specs.Points.{Point}
use Rattle.itpg_base.specs.Lists.{Among, Ordered}
use Rattle.itpg_base.proofs.Lists.{among_append, append_first, append_second, ordered_second}
use Rattle.relation_rows.specs.declared.rows.Row.{Row}
use Rattle.relation_rows.specs.Rows.{InRow, RowBefore, RowsHold, NormalRows}
use Rattle.relation_rows.specs.Relations.{EitherHolds, HasMiddlePoint}
use Rattle.relation_rows.proofs.Alike.{rows_alike, rows_hold, hold_only}
use Rattle.relation_rows.proofs.HalfRows.{in_first, in_half, in_last}

-- the others in three parts, the second of which is the first with a step behind it
module _ (others front last first half : List Row) (parts : others ≡ front ++ last) (halves : front ≡ first ++ half) where
  pub last_ordered : Ordered RowBefore others → Ordered RowBefore last
  last_ordered order = ordered_second RowBefore front last (subst (λ (v : List Row). Ordered RowBefore v) parts order)

  pub all_by_later_halves : (rows step done moved both more all : List Row) → ((x y : Point) → RowsHold half x y ↔ HasMiddlePoint first step x y) → NormalRows (HasMiddlePoint rows first) done → NormalRows (HasMiddlePoint done step) moved
      → NormalRows (EitherHolds done moved) both → NormalRows (HasMiddlePoint rows last) more → NormalRows (EitherHolds both more) all → NormalRows (HasMiddlePoint rows others) all
  all_by_later_halves rows step done moved both more all behind nd nm nb nl n = rows_alike (EitherHolds both more) (HasMiddlePoint rows others) to from all n
    where
      moved_on : (x y : Point) → HasMiddlePoint done step x y → HasMiddlePoint rows others x y
      moved_on x y w =
          let f = hold_only (HasMiddlePoint rows first) done nd x w.0 w.1 in
          let h = (behind f.0 y).1 (w.0, f.2, w.2) in
          (f.0, f.1, (h.0, in_half others front last first half parts halves h.0 h.1, h.2))

      before : (x y : Point) → HasMiddlePoint rows first x y → HasMiddlePoint rows others x y
      before x y w = (w.0, w.1, (w.2.0, in_first others front last first half parts halves w.2.0 w.2.1, w.2.2))

      to : (x y : Point) → EitherHolds both more x y → HasMiddlePoint rows others x y
      to x y (inl h) = elim (hold_only (EitherHolds done moved) both nb x y h) [
        | inl d ↦ before x y (hold_only (HasMiddlePoint rows first) done nd x y d)
        | inr m ↦ moved_on x y (hold_only (HasMiddlePoint done step) moved nm x y m)
      ]
      to x y (inr h) = let w = hold_only (HasMiddlePoint rows last) more nl x y h in (w.0, w.1, (w.2.0, in_last others front last first half parts halves w.2.0 w.2.1, w.2.2))

      by_first : (x y : Point) → HasMiddlePoint rows first x y → EitherHolds both more x y
      by_first x y w = inl (rows_hold (EitherHolds done moved) both nb x y (inl (rows_hold (HasMiddlePoint rows first) done nd x y w)))

      by_half : (x y m : Point) → RowsHold rows x m → RowsHold half m y → EitherHolds both more x y
      by_half x y m r h =
          let w = (behind m y).0 h in
          let d = rows_hold (HasMiddlePoint rows first) done nd x w.0 (m, r, w.1) in
          inl (rows_hold (EitherHolds done moved) both nb x y (inr (rows_hold (HasMiddlePoint done step) moved nm x y (w.0, d, w.2))))

      in_front : (x y m : Point) (r : Row) → RowsHold rows x m → InRow r m y → Among front r → EitherHolds both more x y
      in_front x y m r s i a = elim (among_append first half r (subst (λ (v : List Row). Among v r) halves a)) [
        | inl f ↦ by_first x y (m, s, (r, f, i))
        | inr h ↦ by_half x y m s (r, h, i)
      ]

      from : (x y : Point) → HasMiddlePoint rows others x y → EitherHolds both more x y
      from x y w = elim (among_append front last w.2.0 (subst (λ (v : List Row). Among v w.2.0) parts w.2.1)) [
        | inl a ↦ in_front x y w.0 w.2.0 w.1 w.2.2 a
        | inr a ↦ inr (rows_hold (HasMiddlePoint rows last) more nl x y (w.0, w.1, (w.2.0, a, w.2.2)))
      ]

-- the ways that go on by the rows that were read
pub record HaveLaterRun (rows second left all : List Row) : Type 0 where
  pub read : List Row
  pub parts : second ≡ read ++ left
  pub normal : NormalRows (HasMiddlePoint rows read) all

pub none_later_run : (rows second all : List Row) → all ≡ [] → HaveLaterRun rows second second all
none_later_run rows second all e = record { read = []; parts = refl; normal = rw e (record { whole = λ x y w. absurd w.2.1; once = λ r s x y a. absurd a; each = λ r a. absurd a; order = tt }) }

pub next_later_run : (rows second left all : List Row) → HaveLaterRun rows second left all → (run later more both : List Row) → left ≡ run ++ later → NormalRows (HasMiddlePoint rows run) more → NormalRows (EitherHolds all more) both → HaveLaterRun rows second later both
next_later_run rows second left all h run later more both parts n nb = record {
  read = h.read ++ run;
  parts = h.parts ∙ ap (λ (v : List Row). h.read ++ v) parts ∙ sym (append_assoc h.read run later);
  normal = rows_alike (EitherHolds all more) (HasMiddlePoint rows (h.read ++ run))
      (λ x y. λ e. elim e [
        | inl a ↦ let w = hold_only (HasMiddlePoint rows h.read) all h.normal x y a in (w.0, w.1, (w.2.0, append_first h.read run w.2.0 w.2.1, w.2.2))
        | inr b ↦ let w = hold_only (HasMiddlePoint rows run) more n x y b in (w.0, w.1, (w.2.0, append_second h.read run w.2.0 w.2.1, w.2.2))
      ])
      (λ x y w. elim (among_append h.read run w.2.0 w.2.1) [
        | inl a ↦ inl (rows_hold (HasMiddlePoint rows h.read) all h.normal x y (w.0, w.1, (w.2.0, a, w.2.2)))
        | inr a ↦ inr (rows_hold (HasMiddlePoint rows run) more n x y (w.0, w.1, (w.2.0, a, w.2.2)))
      ]) both nb;
}

pub all_later_run : (rows second left all : List Row) → left ≡ [] → HaveLaterRun rows second left all → NormalRows (HasMiddlePoint rows second) all
all_later_run rows second left all e h = subst (λ (v : List Row). NormalRows (HasMiddlePoint rows v) all) (sym (h.parts ∙ ap (λ (v : List Row). h.read ++ v) e ∙ append-nil h.read)) h.normal

-- what is left stands in its order, and each of it is one of the second rows
pub left_later_among : (rows second left all : List Row) → HaveLaterRun rows second left all → (r : Row) → Among left r → Among second r
left_later_among rows second left all h r a = subst (λ (v : List Row). Among v r) (sym h.parts) (append_second h.read left r a)

pub left_later_ordered : (rows second left all : List Row) → HaveLaterRun rows second left all → Ordered RowBefore second → Ordered RowBefore left
left_later_ordered rows second left all h order = ordered_second RowBefore h.read left (subst (λ (v : List Row). Ordered RowBefore v) h.parts order)
