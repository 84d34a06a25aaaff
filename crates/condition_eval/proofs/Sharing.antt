-- The walk along two lists of one-time rows that finds what both have.
use Rattle.std.proofs.Common.{◌≡◌, ◌⊎◌, inl, inr, ⊎_elim, ℕ, ◌<◌, ℤ, pos, ◌+ℤ◌, ◌≤ℤ◌, ◌<ℤ◌, List, [], ◌∷◌, ◌++◌, length, append-nil, refl, sym, ◌∙◌, subst, arith}
use Rattle.std.proofs.lemmas.Int.{ints, clamps, by_lt_z}
use Rattle.std.proofs.lemmas.Bool.Decides.{eqb_tells, leb_tells}
use Rattle.std.specs.Int.{int_max, int_min}
use Rattle.itpg_base.specs.Spans.{Span, IsSpan}
use Rattle.itpg_base.specs.Lists.{Among}
use Rattle.itpg_base.proofs.Lists.{among_append, append_first, append_second, append_ordered}
use Rattle.relation_rows.specs.declared.times.OneRow.{OneRow}
use Rattle.relation_rows.specs.Times.{InTime, TimesHold, TimeBefore, IsOneTime, AreTimes}
use Rattle.relation_rows.proofs.FiniteTimes.{has_more, more_has}
use Rattle.relation_rows.proofs.Runs.{times_alike}
use Rattle.relation_rows.proofs.TimesMinus.{one_run, at_first, at_last}
use Rattle.condition_eval.specs.Walking.{EndsUpTo, HasShared}

-- the object at the moment comes after the row, and if it is the row's at least one moment is missing between
abbrev pub IsPast : OneRow → ℕ → ℤ → Type 0
IsPast r o t = (r.object.0 < o) ⊎ ((r.object.0 ≡ o) × ((r.span.to +ℤ pos 1) <ℤ t))

-- what both lists have was found, but for what both have of what is left of them, which comes later
pub record AreShared (own other left right rows : List OneRow) : Type 0 where
  pub own_left : (r : OneRow) → Among left r → Among own r
  pub other_left : (r : OneRow) → Among right r → Among other r
  pub left_order : IsOneTime left
  pub right_order : IsOneTime right
  pub whole : (o : ℕ) (t : ℤ) → TimesHold own o t → TimesHold other o t → TimesHold rows o t ⊎ (TimesHold left o t × TimesHold right o t)
  pub only : (o : ℕ) (t : ℤ) → TimesHold rows o t → TimesHold own o t × TimesHold other o t
  pub order : IsOneTime rows
  pub apart : (r : OneRow) → Among rows r → (o : ℕ) (t : ℤ) → TimesHold left o t → TimesHold right o t → IsPast r o t

pub shared_start : (own other rows : List OneRow) → IsOneTime own → IsOneTime other → rows ≡ [] → AreShared own other own other rows
shared_start own other rows a b e = subst (λ (v : List OneRow). AreShared own other own other v) (sym e) (record {
  own_left = λ r i. i;
  other_left = λ r i. i;
  left_order = a;
  right_order = b;
  whole = λ o t h k. inr (h, k);
  only = λ o t h. absurd h.1;
  order = record { spans = λ r i. absurd i; order = tt };
  apart = λ r i. absurd i;
})

swapped : (own other left right rows : List OneRow) → AreShared own other left right rows → AreShared other own right left rows
swapped own other left right rows s = record {
  own_left = s.other_left;
  other_left = s.own_left;
  left_order = s.right_order;
  right_order = s.left_order;
  whole = λ o t h k. ⊎_elim (λ a. inl a) (λ p. inr (p.1, p.0)) (s.whole o t k h);
  only = λ o t h. let p = s.only o t h in (p.1, p.0);
  order = s.order;
  apart = λ r i o t h k. s.apart r i o t k h;
}

pub behind_first : (a : OneRow) (behind : List OneRow) → IsOneTime (a ∷ behind) → IsOneTime behind
behind_first a behind o = let order = o.order in record { spans = λ r i. o.spans r (inr i); order = order.1 }

-- the one that ends first shares nothing with what comes behind the other
none_later : (a b : OneRow) (bs : List OneRow) → IsOneTime (b ∷ bs) → EndsUpTo a b → (o : ℕ) (t : ℤ) → InTime a o t → TimesHold bs o t → ⊥
none_later a b bs ordered up o t i h =
    let order = ordered.order in
    let before : TimeBefore b h.0 = order.0 h.0 h.1 in
    let j = h.2 in
    let e = i.object in
    let f = j.object in
    let w = i.moment in
    let going = w.going in
    let v = j.moment in
    let begun = v.begun in
    ⊎_elim
    (λ l. ⊎_elim (λ k. omega arith) (λ k. let same = k.0 in omega arith) before)
    (λ u. let same = u.0 in let le = u.1 in ⊎_elim (λ k. omega arith) (λ k. let gap = k.1 in omega (arith, ints)) before)
    up

module _ (own other rows : List OneRow) (a b : OneRow) (behind bs : List OneRow) (s : AreShared own other (a ∷ behind) (b ∷ bs) rows) (next pieces : List OneRow) (is : next ≡ rows ++ pieces) (times : AreTimes (λ o t. InTime a o t × InTime b o t) pieces) where
  across : (r q : OneRow) → Among rows r → Among pieces q → TimeBefore r q
  across r q i j =
      let at = times.only q.object.0 q.span.from (q, j, at_first q (times.spans q j)) in
      s.apart r i q.object.0 q.span.from (a, inl refl, at.0) (b, inl refl, at.1)

  old_order : IsOneTime rows
  old_order = s.order

  -- what is left behind the first row comes later than what was found of it
  later : (r : OneRow) → Among pieces r → (o : ℕ) (t : ℤ) → TimesHold behind o t → IsPast r o t
  later r j o t h =
      let last = times.only r.object.0 r.span.to (r, j, at_last r (times.spans r j)) in
      let i = last.0 in
      let e = i.object in
      let w = i.moment in
      let going = w.going in
      let ordered = s.left_order in
      let order = ordered.order in
      let before : TimeBefore a h.0 = order.0 h.0 h.1 in
      let k = h.2 in
      let f = k.object in
      let v = k.moment in
      let begun = v.begun in
      ⊎_elim (λ l. inl (omega arith)) (λ l. let gap = l.1 in inr (sym e ∙ l.0 ∙ f, omega (arith, ints))) before

  passed : EndsUpTo a b → AreShared own other behind (b ∷ bs) next
  passed up = subst (λ (v : List OneRow). AreShared own other behind (b ∷ bs) v) (sym is) (record {
    own_left = λ r i. s.own_left r (inr i);
    other_left = s.other_left;
    left_order = behind_first a behind s.left_order;
    right_order = s.right_order;
    whole = λ o t h k. ⊎_elim
        (λ q. inl (q.0, append_first rows pieces q.0 q.1, q.2))
        (λ (p : TimesHold (a ∷ behind) o t × TimesHold (b ∷ bs) o t). ⊎_elim
        (λ (i : InTime a o t). ⊎_elim
        (λ (j : InTime b o t). let q = times.whole o t (i, j) in inl (q.0, append_second rows pieces q.0 q.1, q.2))
        (λ l. absurd (none_later a b bs s.right_order up o t i l))
        (has_more b bs o t p.1))
        (λ l. inr (l, p.1))
        (has_more a behind o t p.0))
        (s.whole o t h k);
    only = λ o t h. ⊎_elim
        (λ i. s.only o t (h.0, i, h.2))
        (λ i. let p = times.only o t (h.0, i, h.2) in ((a, s.own_left a (inl refl), p.0), (b, s.other_left b (inl refl), p.1)))
        (among_append rows pieces h.0 h.1);
    order = record {
      spans = λ r i. ⊎_elim (λ j. (old_order).spans r j) (λ j. times.spans r j) (among_append rows pieces r i);
      order = append_ordered TimeBefore rows pieces (old_order).order times.order across;
    };
    apart = λ r i o t h k. ⊎_elim
        (λ j. s.apart r j o t (more_has a behind o t (inr h)) k)
        (λ j. later r j o t h)
        (among_append rows pieces r i);
  })

turned : (a b : OneRow) → (EndsUpTo a b → ⊥) → EndsUpTo b a
turned a b not = elim (leb_tells b.object.0 a.object.0) [
  | inl more ↦ elim (eqb_tells b.object.0 a.object.0) [
    | inl e ↦ inr (e.1, by_lt_z a.span.to b.span.to (λ lt. absurd (not (inr (sym e.1, omega (arith, ints))))) (λ le. le))
    | inr ne ↦ inl (let m = more.1 in let n = ne.1 in omega arith)
  ]
  | inr less ↦ absurd (not (inl (let l = less.1 in omega arith)))
]

module _ (own other left right behind bs rows next : List OneRow) (a b : OneRow) (e : left ≡ a ∷ behind) (f : right ≡ b ∷ bs) (added : HasShared a b rows next) (s : AreShared own other left right rows) where
  at_both : AreShared own other (a ∷ behind) (b ∷ bs) rows
  at_both = subst (λ (v : List OneRow). AreShared own other (a ∷ behind) v rows) f (subst (λ (v : List OneRow). AreShared own other v right rows) e s)

  -- the first row of the one list is passed, or that of the other
  pub shared_left : EndsUpTo a b → AreShared own other behind right next
  shared_left up = subst (λ (v : List OneRow). AreShared own other behind v next) (sym f) (passed own other rows a b behind bs at_both next added.0 added.1 added.2 up)

  pub shared_right : (EndsUpTo a b → ⊥) → AreShared own other left bs next
  shared_right not = subst (λ (v : List OneRow). AreShared own other v bs next) (sym e)
      (swapped other own bs (a ∷ behind) next
      (passed other own rows b a bs behind (swapped own other (a ∷ behind) (b ∷ bs) rows at_both) next added.0 added.1
      (times_alike (λ o t. InTime a o t × InTime b o t) (λ o t. InTime b o t × InTime a o t) (λ o t h. (h.1, h.0)) (λ o t h. (h.1, h.0)) added.0 added.2)
      (turned a b not)))

none_of : (xs : List OneRow) → length xs ≡ 0 → (o : ℕ) (t : ℤ) → TimesHold xs o t → ⊥
none_of [] e o t h = h.1
none_of (x ∷ xs) e o t h = omega (arith, e)

module _ (own other left right rows : List OneRow) (s : AreShared own other left right rows) where
  shared_all : ((o : ℕ) (t : ℤ) → TimesHold left o t → TimesHold right o t → ⊥) → AreTimes (λ o t. TimesHold own o t × TimesHold other o t) rows
  shared_all none = let order = s.order in record {
    whole = λ o t h. ⊎_elim (λ a. a) (λ p. absurd (none o t p.0 p.1)) (s.whole o t h.0 h.1);
    only = s.only;
    spans = order.spans;
    order = order.order;
  }

  -- one of the lists is at its end
  pub left_ends : length left ≡ 0 → AreTimes (λ o t. TimesHold own o t × TimesHold other o t) rows
  left_ends e = shared_all (λ o t h k. none_of left e o t h)

  pub right_ends : length right ≡ 0 → AreTimes (λ o t. TimesHold own o t × TimesHold other o t) rows
  right_ends e = shared_all (λ o t h k. none_of right e o t k)

-- ---- two rows

pub lesser_of : (m a b c d : ℤ) → m ≡ int_min a b → a ≡ c → b ≡ d → m ≡ int_min c d
lesser_of m a b c d e f g = subst (λ (v : ℤ). m ≡ int_min c v) g (subst (λ (v : ℤ). m ≡ int_min v b) f e)

module _ (r s : OneRow) (old : List OneRow) (from to : ℤ) (first : from ≡ int_max r.span.from s.span.from) (last : to ≡ int_min r.span.to s.span.to) where
  -- they share no moment
  pub none_shared : (from ≤ℤ to → ⊥) → HasShared r s old old
  none_shared none = (
    [],
    sym (append-nil old),
    record {
      whole = λ o t h.
          let w = h.0.moment in let v = h.1.moment in
          let a = w.begun in let b = w.going in let c = v.begun in let d = v.going in
          absurd (none (omega (arith, ints, clamps)));
      only = λ o t h. absurd h.1;
      spans = λ q a. absurd a;
      order = tt;
    },
  )

  -- what they share is one row
  pub one_shared : r.object.0 ≡ s.object.0 → (span : Span) → span.from ≡ from → span.to ≡ to → IsSpan span → (next : List OneRow) → next ≡ old ++ (record { object = r.object; span = span }) ∷ [] → HasShared r s old next
  one_shared same span e f ordered next is =
      let row : OneRow = record { object = r.object; span = span } in (
        row ∷ [],
        is,
        times_alike (InTime row) (λ o t. InTime r o t × InTime s o t)
            (λ o t i.
            let w = i.moment in let begun = w.begun in let going = w.going in (
              record { object = i.object; moment = record { begun = omega (arith, ints, clamps); going = omega (arith, ints, clamps) } },
              record { object = sym same ∙ i.object; moment = record { begun = omega (arith, ints, clamps); going = omega (arith, ints, clamps) } },
            ))
            (λ o t h.
            let w = h.0.moment in let v = h.1.moment in
            let a = w.begun in let b = w.going in let c = v.begun in let d = v.going in
            record { object = h.0.object; moment = record { begun = omega (arith, ints, clamps); going = omega (arith, ints, clamps) } })
            (row ∷ []) (one_run row ordered),
      )
