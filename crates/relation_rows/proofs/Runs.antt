-- The loop that joins one-time rows, and the order in which it takes them.
use Rattle.std.proofs.Common.{◌≡◌, ◌↔◌, ◌⊎◌, inl, ⊎_elim, ℕ, ◌+◌, ◌-◌, ◌<◌, ◌≤◌, ℤ, ◌≤ℤ◌, List, [], ◌∷◌, ◌++◌, length, get_or, slice_index_or, take, drop, Some, None, refl, sym, ◌∙◌, ap, subst, arith, false}
use Rattle.std.proofs.lemmas.Int.{ints}
use Rattle.std.proofs.lemmas.List.{take_more, take_all, get_or-take, get_or-drop, length-take, length-drop}
use Rattle.std.specs.Prelude.{slice_get}
use Rattle.std.specs.Ordering.{nat_cmp, int_cmp, is_lt, ordering_then}
use Rattle.itpg_base.specs.Spans.{Within, IsSpan}
use Rattle.itpg_base.specs.Lists.{Among, Ordered}
use Rattle.itpg_base.proofs.Lists.{ordered_at, ordered_from_neighbours}
use Rattle.relation_rows.specs.declared.times.OneRow.{OneRow}
use Rattle.relation_rows.specs.Times.{TimesHold, TimeUpTo, AreTimes, IsOneTime, Joins}
use Rattle.relation_rows.proofs.Partitions.{front_among}
use Rattle.relation_rows.proofs.Legs.{up_to}
use Rattle.relation_rows.proofs.Neighbours.{AreNext}
use Rattle.relation_rows.proofs.Coalescing.{Coalesced, coalesced_first, coalesced_joined, coalesced_pushed, time_trans}

pub take_one : (times : List OneRow) (first : OneRow) → Some first ≡ slice_get times 0 → take (0 + 1) times ≡ first ∷ []
take_one [] first e = let none : ⊥ = cc in absurd none
take_one (x ∷ xs) first e = let same : x ≡ first = cc in ap (λ (v : OneRow). v ∷ take 0 xs) same ∙ ap (λ (v : List OneRow). first ∷ v) (none xs)
  where
    none : (ys : List OneRow) → take 0 ys ≡ []
    none [] = refl
    none (y ∷ ys) = refl

pub init : (times : List OneRow) (first : OneRow) (rows : List OneRow) → rows ≡ [] → Some first ≡ slice_get times 0 → ((r : OneRow) → Among times r → IsSpan r.span) → Coalesced (take (0 + 1) times) rows first
init times first rows none e spans =
    let one = take_one times first e in
    subst (λ (v : List OneRow). Coalesced (take (0 + 1) times) v first) (sym none)
    (subst (λ (v : List OneRow). Coalesced v [] first) (sym one) (coalesced_first first (spans first (front_among times (0 + 1) first (subst (λ (v : List OneRow). Among v first) (sym one) (inl refl))))))

module _ (times : List OneRow) (order : Ordered TimeUpTo times) (spans : (r : OneRow) → Among times r → IsSpan r.span) (i : ℕ) (d : OneRow)
    (lt : i < length (take (length times - 1) (drop 1 times))) (rows : List OneRow) (last : OneRow) (c : Coalesced (take (i + 1) times) rows last) where
  abbrev rest : List OneRow
  rest = take (length times - 1) (drop 1 times)

  inside : i + 1 < length times
  inside = omega (arith, length-take (length times - 1) (drop 1 times), length-drop 1 times)

  next_is : slice_index_or rest i d ≡ slice_index_or times (i + 1) d
  next_is =
      let lt' = inside in
      let e : 1 + i ≡ i + 1 = omega arith in
      get_or-take (length times - 1) (drop 1 times) i d (omega arith) ∙ get_or-drop 1 times i d ∙ ap (λ (n : ℕ). get_or times n d) e

  more : take (i + 1 + 1) times ≡ take (i + 1) times ++ slice_index_or rest i d ∷ []
  more = take_more times (i + 1) d inside ∙ ap (λ (v : OneRow). take (i + 1) times ++ v ∷ []) (sym next_is)

  all_spans : (r : OneRow) → Among (take (i + 1) times ++ slice_index_or rest i d ∷ []) r → IsSpan r.span
  all_spans r a = spans r (front_among times (i + 1 + 1) r (subst (λ (v : List OneRow). Among v r) (sym more) a))

  up : (s : OneRow) → Among (take (i + 1) times) s → TimeUpTo s (slice_index_or rest i d)
  up s a = subst (λ (v : OneRow). TimeUpTo s v) (sym next_is) (ordered_at TimeUpTo times (i + 1) d order inside s a)

  pub last_no_later : Joins last (slice_index_or rest i d) → last.span.from ≤ℤ (slice_index_or rest i d).span.from
  last_no_later joins =
      let b = c.begun in
      let e = joins.0 in
      ⊎_elim (λ l. absurd (let f = b.2 in omega arith)) (λ k. let f = b.3 in let le = k.1 in omega (arith, ints)) (up b.0 b.1)

  pub step_joined : (one : OneRow) → Joins last (slice_index_or rest i d) → one.object ≡ last.object → one.span.from ≡ last.span.from
      → ((t : ℤ) → Within t one.span ↔ (Within t last.span ⊎ Within t (slice_index_or rest i d).span)) → IsSpan one.span → Coalesced (take (i + 1 + 1) times) rows one
  step_joined one joins e f moments span = subst (λ (v : List OneRow). Coalesced v rows one) (sym more)
      (coalesced_joined (take (i + 1) times) (slice_index_or rest i d) all_spans up rows last c one joins e f moments span)

  pub step_pushed : (Joins last (slice_index_or rest i d) → ⊥) → (all : List OneRow) → all ≡ rows ++ last ∷ [] → Coalesced (take (i + 1 + 1) times) all (slice_index_or rest i d)
  step_pushed apart all e = subst (λ (v : List OneRow). Coalesced v all (slice_index_or rest i d)) (sym more)
      (coalesced_pushed (take (i + 1) times) (slice_index_or rest i d) all_spans up rows last c apart all e)

pub all_read : (times : List OneRow) (i : ℕ) (rows : List OneRow) (last : OneRow) → length (take (length times - 1) (drop 1 times)) ≤ i → Coalesced (take (i + 1) times) rows last → Coalesced times rows last
all_read times i rows last le = subst (λ (v : List OneRow). Coalesced v rows last) (take_all (i + 1) times (omega (arith, length-take (length times - 1) (drop 1 times), length-drop 1 times)))

pub none_read : (times rows : List OneRow) → None ≡ slice_get times 0 → rows ≡ [] → AreTimes (TimesHold times) rows
none_read [] rows e f = subst (λ (v : List OneRow). AreTimes (TimesHold []) v) (sym f) (record { whole = λ o t h. h; only = λ o t h. h; spans = λ r a. absurd a; order = tt })
none_read (x ∷ xs) rows e f = let none : ⊥ = cc in absurd none

pub sorted_times : (times : List OneRow)
    → ((k : ℕ) (d : OneRow) → 0 ≤ k → k + 1 < length times → is_lt (ordering_then (nat_cmp (get_or times (k + 1) d).object.0 (get_or times k d).object.0) (int_cmp (get_or times (k + 1) d).span.from (get_or times k d).span.from)) ≡ false)
    → Ordered TimeUpTo times
sorted_times times up = ordered_from_neighbours TimeUpTo time_trans times (λ k d lt. up_to _ _ _ _ (up k d (omega arith) lt))

pub times_permuted : (xs ys : List OneRow) → ((r : OneRow) → Among ys r ↔ Among xs r) → (rows : List OneRow) → AreTimes (TimesHold ys) rows → AreTimes (TimesHold xs) rows
times_permuted xs ys p rows a = record {
  whole = λ o t h. a.whole o t (h.0, (p h.0).1 h.1, h.2);
  only = λ o t h. let k = a.only o t h in (k.0, (p k.0).0 k.1, k.2);
  spans = a.spans;
  order = a.order;
}

pub times_alike : (S T : ℕ → ℤ → Type 0) → ((o : ℕ) (t : ℤ) → S o t → T o t) → ((o : ℕ) (t : ℤ) → T o t → S o t) → (rows : List OneRow) → AreTimes S rows → AreTimes T rows
times_alike S T f g rows a = record { whole = λ o t h. a.whole o t (g o t h); only = λ o t h. f o t (a.only o t h); spans = a.spans; order = a.order }

pub one_time_of : (S : ℕ → ℤ → Type 0) (rows : List OneRow) → AreTimes S rows → IsOneTime rows
one_time_of S rows a = record { spans = a.spans; order = a.order }

pub times_self : (rows : List OneRow) → IsOneTime rows → AreTimes (TimesHold rows) rows
times_self rows a = record { whole = λ o t h. h; only = λ o t h. h; spans = a.spans; order = a.order }

-- the same in the words of the loop, which reads the element x
module _ (times : List OneRow) (order : Ordered TimeUpTo times) (spans : (r : OneRow) → Among times r → IsSpan r.span) (i : ℕ) (x : OneRow)
    (lt : i < length (take (length times - 1) (drop 1 times))) (read : x ≡ slice_index_or (take (length times - 1) (drop 1 times)) i x) (rows : List OneRow) (last : OneRow) (c : Coalesced (take (i + 1) times) rows last) where
  pub item_up : Joins last x → last.span.from ≤ℤ x.span.from
  item_up joins = subst (λ (v : OneRow). last.span.from ≤ℤ v.span.from) (sym read) (last_no_later times order spans i x lt rows last c (subst (λ (v : OneRow). Joins last v) read joins))

  pub item_joined : (one : OneRow) → Joins last x → one.object ≡ last.object → one.span.from ≡ last.span.from → ((t : ℤ) → Within t one.span ↔ (Within t last.span ⊎ Within t x.span)) → IsSpan one.span → Coalesced (take (i + 1 + 1) times) rows one
  item_joined one joins e f moments span =
      step_joined times order spans i x lt rows last c one (subst (λ (v : OneRow). Joins last v) read joins) e f
      (subst (λ (v : OneRow). (t : ℤ) → Within t one.span ↔ (Within t last.span ⊎ Within t v.span)) read moments) span

  pub item_pushed : (Joins last x → ⊥) → (all : List OneRow) → all ≡ rows ++ last ∷ [] → Coalesced (take (i + 1 + 1) times) all x
  item_pushed apart all e = subst (λ (v : OneRow). Coalesced (take (i + 1 + 1) times) all v) (sym read)
      (step_pushed times order spans i x lt rows last c (λ j. apart (subst (λ (v : OneRow). Joins last v) (sym read) j)) all e)

-- neighbours in order
pub all_up : (times : List OneRow) (i : ℕ) → length times ≤ i → AreNext TimeUpTo times i → Ordered TimeUpTo times
all_up times i le so = ordered_from_neighbours TimeUpTo time_trans times (λ k d lt. so k d (omega (arith, le, lt)))
