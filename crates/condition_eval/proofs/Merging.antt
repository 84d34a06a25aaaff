-- The walk along two lists of one-time rows that joins them.
use Rattle.std.proofs.Common.{◌≡◌, ◌⊎◌, inl, inr, ⊎_elim, ℕ, ℤ, List, [], ◌∷◌, ◌++◌, length, refl, sym, subst, arith}
use Rattle.std.proofs.lemmas.Int.{ints, by_lt_z}
use Rattle.std.proofs.lemmas.Bool.Decides.{eqb_tells, leb_tells}
use Rattle.itpg_base.specs.Spans.{IsSpan}
use Rattle.itpg_base.specs.Lists.{Among}
use Rattle.itpg_base.proofs.Lists.{among_append, append_first, append_second}
use Rattle.relation_rows.specs.declared.times.OneRow.{OneRow}
use Rattle.relation_rows.specs.Times.{InTime, TimesHold, TimeUpTo, IsOneTime, AreTimes}
use Rattle.relation_rows.proofs.Coalescing.{hold_more, time_trans}
use Rattle.relation_rows.proofs.FiniteTimes.{has_more, more_has}
use Rattle.condition_eval.specs.Walking.{AreJoined}
use Rattle.condition_eval.proofs.Sharing.{behind_first}
use Rattle.condition_eval.proofs.Joining.{joined_order, none_there, up_as, before_up}

-- what the rows have, or what is left of the lists
abbrev pub SomeHave : List OneRow → List OneRow → List OneRow → ℕ → ℤ → Type 0
SomeHave rows left right o t = TimesHold rows o t ⊎ (TimesHold left o t ⊎ TimesHold right o t)

pub record AreMerged (own other left right rows : List OneRow) : Type 0 where
  pub left_order : IsOneTime left
  pub right_order : IsOneTime right
  pub order : IsOneTime rows
  pub whole : (o : ℕ) (t : ℤ) → TimesHold own o t ⊎ TimesHold other o t → SomeHave rows left right o t
  pub only : (o : ℕ) (t : ℤ) → SomeHave rows left right o t → TimesHold own o t ⊎ TimesHold other o t
  pub left_up : (r s : OneRow) → Among rows r → Among left s → TimeUpTo r s
  pub right_up : (r s : OneRow) → Among rows r → Among right s → TimeUpTo r s

pub merged_start : (own other rows : List OneRow) → IsOneTime own → IsOneTime other → rows ≡ [] → AreMerged own other own other rows
merged_start own other rows a b e = subst (λ (v : List OneRow). AreMerged own other own other v) (sym e) (record {
  left_order = a;
  right_order = b;
  order = record { spans = λ r i. absurd i; order = tt };
  whole = λ o t h. inr h;
  only = λ o t h. ⊎_elim (λ k. absurd k.1) (λ k. k) h;
  left_up = λ r s i. absurd i;
  right_up = λ r s i. absurd i;
})

flipped : {A B : Type 0} → A ⊎ B → B ⊎ A
flipped (inl a) = inr a
flipped (inr b) = inl b

swapped : (own other left right rows : List OneRow) → AreMerged own other left right rows → AreMerged other own right left rows
swapped own other left right rows m = record {
  left_order = m.right_order;
  right_order = m.left_order;
  order = m.order;
  whole = λ o t h. ⊎_elim (λ a. inl a) (λ a. inr (flipped a)) (m.whole o t (flipped h));
  only = λ o t h. flipped (m.only o t (⊎_elim (λ a. inl a) (λ a. inr (flipped a)) h));
  left_up = m.right_up;
  right_up = m.left_up;
}

module _ (own other rows next : List OneRow) (a b : OneRow) (behind bs : List OneRow) (m : AreMerged own other (a ∷ behind) (b ∷ bs) rows) (up : TimeUpTo a b) (j : AreJoined (rows ++ a ∷ []) next) where
  left_ordered : IsOneTime (a ∷ behind)
  left_ordered = m.left_order

  right_ordered : IsOneTime (b ∷ bs)
  right_ordered = m.right_order

  times : AreTimes (TimesHold (rows ++ a ∷ [])) next
  times = j.times

  -- each row of the result begins as one of those before or as the one that was added
  as_begun : (s : OneRow) → ((r : OneRow) → Among rows r → TimeUpTo r s) → TimeUpTo a s → (r : OneRow) → Among next r → TimeUpTo r s
  as_begun s old new r i =
      let q = j.begun r i in
      up_as r q.0 s q.2 q.3 (⊎_elim
      (λ k. old q.0 k)
      (λ k. ⊎_elim (λ (e : a ≡ q.0). subst (λ (v : OneRow). TimeUpTo v s) e new) (λ c. absurd c) k)
      (among_append rows (a ∷ []) q.0 q.1))

  behind_up : (s : OneRow) → Among behind s → TimeUpTo a s
  behind_up s i = let order = (left_ordered).order in before_up a s ((left_ordered).spans a (inl refl)) (order.0 s i)

  other_up : (s : OneRow) → Among (b ∷ bs) s → TimeUpTo a s
  other_up s i = ⊎_elim
      (λ (e : b ≡ s). subst (λ (v : OneRow). TimeUpTo a v) e up)
      (λ k. let order = (right_ordered).order in time_trans a b s up (before_up b s ((right_ordered).spans b (inl refl)) (order.0 s k)))
      i

  added : AreMerged own other behind (b ∷ bs) next
  added = record {
    left_order = behind_first a behind left_ordered;
    right_order = right_ordered;
    order = joined_order (rows ++ a ∷ []) next j;
    whole = λ o t h. ⊎_elim
        (λ k. inl (times.whole o t ((hold_more rows a o t).1 (inl k))))
        (λ k. ⊎_elim
        (λ l. ⊎_elim (λ (i : InTime a o t). inl (times.whole o t ((hold_more rows a o t).1 (inr i)))) (λ n. inr (inl n)) (has_more a behind o t l))
        (λ l. inr (inr l))
        k)
        (m.whole o t h);
    only = λ o t h. m.only o t (⊎_elim
        (λ k. ⊎_elim (λ l. inl l) (λ (i : InTime a o t). inr (inl (more_has a behind o t (inl i)))) ((hold_more rows a o t).0 (times.only o t k)))
        (λ k. ⊎_elim (λ l. inr (inl (more_has a behind o t (inr l)))) (λ l. inr (inr l)) k)
        h);
    left_up = λ r s i k. as_begun s (λ q l. m.left_up q s l (inr k)) (behind_up s k) r i;
    right_up = λ r s i k. as_begun s (λ q l. m.right_up q s l k) (other_up s k) r i;
  }

turned : (a b : OneRow) → (TimeUpTo a b → ⊥) → TimeUpTo b a
turned a b not = elim (leb_tells b.object.0 a.object.0) [
  | inl more ↦ elim (eqb_tells b.object.0 a.object.0) [
    | inl e ↦ inr (e.1, by_lt_z a.span.from b.span.from (λ lt. absurd (not (inr (sym e.1, omega (arith, ints))))) (λ le. le))
    | inr ne ↦ inl (let m = more.1 in let n = ne.1 in omega arith)
  ]
  | inr less ↦ absurd (not (inl (let l = less.1 in omega arith)))
]

module _ (own other left right behind bs rows : List OneRow) (a b : OneRow) (e : left ≡ a ∷ behind) (f : right ≡ b ∷ bs) (m : AreMerged own other left right rows) where
  at_both : AreMerged own other (a ∷ behind) (b ∷ bs) rows
  at_both = subst (λ (v : List OneRow). AreMerged own other (a ∷ behind) v rows) f (subst (λ (v : List OneRow). AreMerged own other v right rows) e m)

  a_there : Among left a
  a_there = subst (λ (v : List OneRow). Among v a) (sym e) (inl refl)

  b_there : Among right b
  b_there = subst (λ (v : List OneRow). Among v b) (sym f) (inl refl)

  pub left_span : IsSpan a.span
  left_span = let order = m.left_order in order.spans a a_there

  pub right_span : IsSpan b.span
  right_span = let order = m.right_order in order.spans b b_there

  pub first_up : (r : OneRow) → Among rows r → TimeUpTo r a
  first_up r i = m.left_up r a i a_there

  pub second_up : (r : OneRow) → Among rows r → TimeUpTo r b
  second_up r i = m.right_up r b i b_there

  pub merged_left : TimeUpTo a b → (next : List OneRow) → AreJoined (rows ++ a ∷ []) next → AreMerged own other behind right next
  merged_left up next j = subst (λ (v : List OneRow). AreMerged own other behind v next) (sym f) (added own other rows next a b behind bs at_both up j)

  pub merged_right : (TimeUpTo a b → ⊥) → (next : List OneRow) → AreJoined (rows ++ b ∷ []) next → AreMerged own other left bs next
  merged_right not next j = subst (λ (v : List OneRow). AreMerged own other v bs next) (sym e)
      (swapped other own bs (a ∷ behind) next (added other own rows next b a bs behind (swapped own other (a ∷ behind) (b ∷ bs) rows at_both) (turned a b not) j))

hold_append : (xs ys : List OneRow) (o : ℕ) (t : ℤ) → TimesHold (xs ++ ys) o t → TimesHold xs o t ⊎ TimesHold ys o t
hold_append xs ys o t h = ⊎_elim (λ a. inl (h.0, a, h.2)) (λ a. inr (h.0, a, h.2)) (among_append xs ys h.0 h.1)

append_hold : (xs ys : List OneRow) (o : ℕ) (t : ℤ) → TimesHold xs o t ⊎ TimesHold ys o t → TimesHold (xs ++ ys) o t
append_hold xs ys o t h = ⊎_elim (λ a. (a.0, append_first xs ys a.0 a.1, a.2)) (λ a. (a.0, append_second xs ys a.0 a.1, a.2)) h

-- one of the lists is at its end, and what is left of the other is added
module _ (own other left right rows : List OneRow) (m : AreMerged own other left right rows) (next : List OneRow) where
  pub left_added : length right ≡ 0 → AreJoined (rows ++ left) next → AreTimes (λ o t. TimesHold own o t ⊎ TimesHold other o t) next
  left_added e j = let times = j.times in record {
    whole = λ o t h. times.whole o t (append_hold rows left o t (⊎_elim (λ a. inl a) (λ k. ⊎_elim (λ a. inr a) (λ (a : TimesHold right o t). absurd (subst (λ (v : List OneRow). Among v a.0) (none_there right e) a.1)) k) (m.whole o t h)));
    only = λ o t h. m.only o t (⊎_elim (λ a. inl a) (λ a. inr (inl a)) (hold_append rows left o t (times.only o t h)));
    spans = times.spans;
    order = times.order;
  }

  pub right_added : length left ≡ 0 → AreJoined (rows ++ right) next → AreTimes (λ o t. TimesHold own o t ⊎ TimesHold other o t) next
  right_added e j = let times = j.times in record {
    whole = λ o t h. times.whole o t (append_hold rows right o t (⊎_elim (λ a. inl a) (λ k. ⊎_elim (λ (a : TimesHold left o t). absurd (subst (λ (v : List OneRow). Among v a.0) (none_there left e) a.1)) (λ a. inr a) k) (m.whole o t h)));
    only = λ o t h. m.only o t (⊎_elim (λ a. inl a) (λ a. inr (inr a)) (hold_append rows right o t (times.only o t h)));
    spans = times.spans;
    order = times.order;
  }
