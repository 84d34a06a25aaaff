-- One-time rows that are joined where they overlap or touch.
use Rattle.std.proofs.Common.{◌≡◌, ◌↔◌, ◌⊎◌, inl, inr, ⊎_elim, ℕ, ◌<◌, ◌≤◌, ℤ, pos, ◌+ℤ◌, ◌≤ℤ◌, ◌<ℤ◌, List, [], ◌∷◌, ◌++◌, length, refl, sym, ◌∙◌, ap, subst, arith, length-append}
use Rattle.std.proofs.lemmas.Int.{ints, clamps, by_lt_z}
use Rattle.std.specs.Int.{int_max}
use Rattle.itpg_base.specs.Spans.{Span, Within, IsSpan}
use Rattle.itpg_base.specs.declared.object_number.ObjNo.{ObjNo}
use Rattle.itpg_base.specs.Lists.{Among, Ordered}
use Rattle.itpg_base.proofs.Lists.{among_append, append_first, append_second, append_ordered, ordered_first, ordered_across}
use Rattle.relation_rows.specs.declared.times.OneRow.{OneRow}
use Rattle.relation_rows.specs.Times.{InTime, TimesHold, TimeBefore, TimeUpTo, AreTimes, Joins}

pub both_moments : (a b c : Span) → c.from ≡ a.from → c.to ≡ int_max a.to b.to → IsSpan a → a.from ≤ℤ b.from → b.from ≤ℤ (a.to +ℤ pos 1) → (t : ℤ) → Within t c ↔ (Within t a ⊎ Within t b)
both_moments a b c e f span up near t = (
  λ w.
      let begun = w.begun in
      let going = w.going in
      by_lt_z a.to t
      (λ lt. inr (record { begun = omega (arith, ints); going = omega (arith, ints, clamps) }))
      (λ le. inl (record { begun = omega (arith, ints); going = le })),
  λ h. ⊎_elim
      (λ w. let begun = w.begun in let going = w.going in record { begun = omega (arith, ints); going = omega (arith, ints, clamps) })
      (λ w. let begun = w.begun in let going = w.going in record { begun = omega (arith, ints); going = omega (arith, ints, clamps) })
      h,
)

pub greater_of : (m a b c d : ℤ) → m ≡ int_max a b → a ≡ c → b ≡ d → m ≡ int_max c d
greater_of m a b c d e f g = subst (λ (v : ℤ). m ≡ int_max c v) g (subst (λ (v : ℤ). m ≡ int_max v b) f e)

-- ---- the rows that were read, and those that they are joined to

-- some rows are complete, and a last one may go on
abbrev pub with_last : List OneRow → OneRow → List OneRow
with_last rows last = rows ++ last ∷ []

time_refl : (r : OneRow) → TimeUpTo r r
time_refl r = inr (refl, omega (arith, ints))

pub time_trans : (r s t : OneRow) → TimeUpTo r s → TimeUpTo s t → TimeUpTo r t
time_trans r s t (inl a) (inl b) = inl (omega arith)
time_trans r s t (inl a) (inr (e, b)) = inl (omega arith)
time_trans r s t (inr (e, a)) (inl b) = inl (omega arith)
time_trans r s t (inr (e, a)) (inr (f, b)) = inr (e ∙ f, omega (arith, ints))

before_trans : (r s t : OneRow) → IsSpan s.span → TimeBefore r s → TimeBefore s t → TimeBefore r t
before_trans r s t span (inl a) (inl b) = inl (omega arith)
before_trans r s t span (inl a) (inr (e, b)) = inl (omega arith)
before_trans r s t span (inr (e, a)) (inl b) = inl (omega arith)
before_trans r s t span (inr (e, a)) (inr (f, b)) = inr (e ∙ f, omega (arith, ints))

pub record Coalesced (read : List OneRow) (rows : List OneRow) (last : OneRow) : Type 0 where
  pub holds : (o : ℕ) (t : ℤ) → TimesHold (with_last rows last) o t ↔ TimesHold read o t
  pub spans : (r : OneRow) → Among (with_last rows last) r → IsSpan r.span
  pub order : Ordered TimeBefore (with_last rows last)
  -- the last row begins where one that was read does
  pub begun : (s : OneRow) × Among read s × (s.object.0 ≡ last.object.0) × (s.span.from ≡ last.span.from)
  pub few : length rows < length read

pub coalesced_first : (first : OneRow) → IsSpan first.span → Coalesced (first ∷ []) [] first
coalesced_first first span = record {
  holds = λ o t. (λ h. h, λ h. h);
  spans = λ r a. ⊎_elim (λ (e : first ≡ r). subst (λ (v : OneRow). IsSpan v.span) e span) (λ b. absurd b) a;
  order = (λ r a. absurd a, tt);
  begun = (first, inl refl, refl, refl);
  few = omega arith;
}

pub hold_more : (xs : List OneRow) (x : OneRow) (o : ℕ) (t : ℤ) → TimesHold (xs ++ x ∷ []) o t ↔ (TimesHold xs o t ⊎ InTime x o t)
hold_more xs x o t = (
  λ h. ⊎_elim (λ a. inl (h.0, a, h.2)) (λ a. ⊎_elim (λ (e : x ≡ h.0). inr (subst (λ (v : OneRow). InTime v o t) (sym e) h.2)) (λ b. absurd b) a) (among_append xs (x ∷ []) h.0 h.1),
  λ h. ⊎_elim (λ a. (a.0, append_first xs (x ∷ []) a.0 a.1, a.2)) (λ a. (x, append_second xs (x ∷ []) x (inl refl), a)) h,
)

module _ (read : List OneRow) (next : OneRow) (spans : (r : OneRow) → Among (read ++ next ∷ []) r → IsSpan r.span) (up : (s : OneRow) → Among read s → TimeUpTo s next) (rows : List OneRow) (last : OneRow) (c : Coalesced read rows last) where
  next_span : IsSpan next.span
  next_span = spans next (append_second read (next ∷ []) next (inl refl))

  last_span : IsSpan last.span
  last_span = c.spans last (append_second rows (last ∷ []) last (inl refl))

  last_up : TimeUpTo last next
  last_up =
      let b = c.begun in
      ⊎_elim (λ l. inl (subst (λ (v : ℕ). v < next.object.0) b.2 l)) (λ k. inr (sym b.2 ∙ k.0, subst (λ (v : ℤ). v ≤ℤ next.span.from) b.3 k.1)) (up b.0 b.1)

  -- the next row is joined to the last
  pub coalesced_joined : (one : OneRow) → Joins last next → one.object ≡ last.object → one.span.from ≡ last.span.from → ((t : ℤ) → Within t one.span ↔ (Within t last.span ⊎ Within t next.span)) → IsSpan one.span
      → Coalesced (read ++ next ∷ []) rows one
  coalesced_joined one joins e f moments span = record {
    holds = λ o t. (
      λ h. ⊎_elim
          (λ a. (hold_more read next o t).1 (inl ((c.holds o t).0 ((hold_more rows last o t).1 (inl a)))))
          (λ (a : InTime one o t). ⊎_elim
          (λ w. (hold_more read next o t).1 (inl ((c.holds o t).0 ((hold_more rows last o t).1 (inr (record { object = sym object ∙ a.object; moment = w }))))))
          (λ w. (hold_more read next o t).1 (inr (record { object = joins.0 ∙ sym object ∙ a.object; moment = w })))
          ((moments t).0 a.moment))
          ((hold_more rows one o t).0 h),
      λ h. ⊎_elim
          (λ a. ⊎_elim
          (λ b. (hold_more rows one o t).1 (inl b))
          (λ (b : InTime last o t). (hold_more rows one o t).1 (inr (record { object = object ∙ b.object; moment = (moments t).1 (inl b.moment) })))
          ((hold_more rows last o t).0 ((c.holds o t).1 a)))
          (λ (a : InTime next o t). (hold_more rows one o t).1 (inr (record { object = object ∙ sym joins.0 ∙ a.object; moment = (moments t).1 (inr a.moment) })))
          ((hold_more read next o t).0 h),
    );
    spans = λ r a. ⊎_elim (λ b. c.spans r (append_first rows (last ∷ []) r b)) (λ b. ⊎_elim (λ (g : one ≡ r). subst (λ (v : OneRow). IsSpan v.span) g span) (λ k. absurd k) b) (among_append rows (one ∷ []) r a);
    order = append_ordered TimeBefore rows (one ∷ []) (ordered_first TimeBefore rows (last ∷ []) c.order) (λ r a. absurd a, tt)
        (λ r s a b. ⊎_elim (λ (g : one ≡ s). subst (λ (v : OneRow). TimeBefore r v) g (before_one r (earlier r a))) (λ k. absurd k) b);
    begun = let b = c.begun in (b.0, append_first read (next ∷ []) b.0 b.1, b.2 ∙ sym object, b.3 ∙ sym f);
    few = let l = c.few in omega (arith, length-append {A = OneRow} read (next ∷ []));
  }
    where
      object : one.object.0 ≡ last.object.0
      object = ap (λ (v : ObjNo). v.0) e

      earlier : (r : OneRow) → Among rows r → TimeBefore r last
      earlier r a = ordered_across TimeBefore rows (last ∷ []) c.order r last a (inl refl)

      before_one : (r : OneRow) → TimeBefore r last → TimeBefore r one
      before_one r (inl l) = inl (subst (λ (v : ℕ). r.object.0 < v) (sym object) l)
      before_one r (inr (g, l)) = inr (g ∙ sym object, subst (λ (v : ℤ). (r.span.to +ℤ pos 1) <ℤ v) (sym f) l)

  -- the last row is complete, and the next is the last
  pub coalesced_pushed : (Joins last next → ⊥) → (more : List OneRow) → more ≡ rows ++ last ∷ [] → Coalesced (read ++ next ∷ []) more next
  coalesced_pushed apart more e = subst (λ (v : List OneRow). Coalesced (read ++ next ∷ []) v next) (sym e) (record {
    holds = λ o t. (
      λ h. ⊎_elim (λ a. (hold_more read next o t).1 (inl ((c.holds o t).0 a))) (λ a. (hold_more read next o t).1 (inr a)) ((hold_more (with_last rows last) next o t).0 h),
      λ h. ⊎_elim (λ a. (hold_more (with_last rows last) next o t).1 (inl ((c.holds o t).1 a))) (λ a. (hold_more (with_last rows last) next o t).1 (inr a)) ((hold_more read next o t).0 h),
    );
    spans = λ r a. ⊎_elim (λ b. c.spans r b) (λ b. ⊎_elim (λ (g : next ≡ r). subst (λ (v : OneRow). IsSpan v.span) g next_span) (λ k. absurd k) b) (among_append (with_last rows last) (next ∷ []) r a);
    order = append_ordered TimeBefore (with_last rows last) (next ∷ []) c.order (λ r a. absurd a, tt)
        (λ r s a b. ⊎_elim (λ (g : next ≡ s). subst (λ (v : OneRow). TimeBefore r v) g (earlier r a)) (λ k. absurd k) b);
    begun = (next, append_second read (next ∷ []) next (inl refl), refl, refl);
    few = let l = c.few in omega (arith, length-append {A = OneRow} read (next ∷ []), length-append {A = OneRow} rows (last ∷ []));
  })
    where
      last_before : TimeBefore last next
      last_before = ⊎_elim (λ l. inl l) (λ k. inr (k.0, by_lt_z (last.span.to +ℤ pos 1) next.span.from (λ lt. lt) (λ le. absurd (apart (sym k.0, le))))) last_up

      earlier : (r : OneRow) → Among (with_last rows last) r → TimeBefore r next
      earlier r a = ⊎_elim
          (λ b. before_trans r last next last_span (ordered_across TimeBefore rows (last ∷ []) c.order r last b (inl refl)) last_before)
          (λ b. ⊎_elim (λ (g : last ≡ r). subst (λ (v : OneRow). TimeBefore v next) g last_before) (λ k. absurd k) b)
          (among_append rows (last ∷ []) r a)

pub coalesced_times : (read rows : List OneRow) (last : OneRow) → Coalesced read rows last → (all : List OneRow) → all ≡ rows ++ last ∷ [] → AreTimes (TimesHold read) all
coalesced_times read rows last c all e = subst (λ (v : List OneRow). AreTimes (TimesHold read) v) (sym e) (record {
  whole = λ o t h. (c.holds o t).1 h;
  only = λ o t h. (c.holds o t).0 h;
  spans = c.spans;
  order = c.order;
})

pub coalesced_few : (read rows : List OneRow) (last : OneRow) → Coalesced read rows last → (all : List OneRow) → all ≡ rows ++ last ∷ [] → length all ≤ length read
coalesced_few read rows last c all e = subst (λ (v : List OneRow). length v ≤ length read) (sym e) (let l = c.few in omega (arith, length-append {A = OneRow} rows (last ∷ [])))
