-- The sweep: what a stretch says, and how the rows go on.
use Rattle.std.proofs.Common.{◌≡◌, inl, inr, ⊎_elim, ℕ, ◌<◌, ℤ, pos, ◌+ℤ◌, ◌≤ℤ◌, ◌<ℤ◌, List, [], ◌∷◌, length, refl, sym, ◌∙◌, subst, arith}
use Rattle.std.proofs.lemmas.Int.{ints, by_lt_z}
use Rattle.itpg_base.specs.Spans.{Within, IsSpan}
use Rattle.itpg_base.specs.Lists.{Among, Ordered}
use Rattle.itpg_base.proofs.Lists.{among_append, append_first, append_second, append_ordered}
use Rattle.relation_rows.specs.declared.times.OneRow.{OneRow}
use Rattle.relation_rows.specs.Times.{TimesHold, IsOneTime}
use Rattle.arrivals.specs.declared.counts.CountRow.{CountRow}
use Rattle.arrivals.specs.Counting.{HasSize, CountBefore, SomeCount, AreCounts}
use Rattle.arrivals.specs.Sweeping.{WithSome, IsStretch}
use Rattle.arrivals.proofs.Sizes.{waits, ends, LeftOf, left_number, size_at, size_like, le_true, lt_true}

-- the rows are the counts up to the last stretch, and this has its number throughout
pub record SoFar (S : ℕ → ℤ → Type 0) (rows : List CountRow) (last : CountRow) : Type 0 where
  pub spans : (c : CountRow) → Among rows c → IsSpan c.span
  pub some : (c : CountRow) → Among rows c → 0 < c.number
  pub each : (c : CountRow) (t : ℤ) → Among rows c → Within t c.span → HasSize (λ o. S o t) c.number
  pub whole : (o : ℕ) (t : ℤ) → S o t → t <ℤ last.span.from → SomeCount rows t
  pub order : Ordered CountBefore rows
  pub before : (c : CountRow) → Among rows c → CountBefore c last
  pub span : IsSpan last.span
  pub here : (t : ℤ) → Within t last.span → HasSize (λ o. S o t) last.number

none_of : (S : ℕ → Type 0) (o : ℕ) → HasSize S 0 → S o → ⊥
none_of S o h s = go h.members h.size (h.whole o s)
  where
    go : (os : List ℕ) → length os ≡ 0 → Among os o → ⊥
    go [] e i = i
    go (x ∷ os) e i = omega arith

module _ (S : ℕ → ℤ → Type 0) where
  pub begin : (rows : List CountRow) (last : CountRow) → rows ≡ [] → IsSpan last.span → ((t : ℤ) → Within t last.span → HasSize (λ o. S o t) last.number) → ((o : ℕ) (t : ℤ) → S o t → last.span.from ≤ℤ t) → SoFar S rows last
  begin rows last e span here first = subst (λ (v : List CountRow). SoFar S v last) (sym e) (record {
    spans = λ c i. absurd i;
    some = λ c i. absurd i;
    each = λ c t i w. absurd i;
    whole = λ o t s lt. absurd (let f = first o t s in omega (arith, ints));
    order = tt;
    before = λ c i. absurd i;
    span = span;
    here = here;
  })

  -- a stretch with the same number makes the last one longer
  pub same_on : (rows : List CountRow) (last next now : CountRow) → SoFar S rows last → IsSpan next.span → next.span.from ≡ last.span.to +ℤ pos 1 → next.number ≡ last.number
      → ((t : ℤ) → Within t next.span → HasSize (λ o. S o t) next.number) → now.number ≡ last.number → now.span.from ≡ last.span.from → now.span.to ≡ next.span.to → SoFar S rows now
  same_on rows last next now g span from number here n f t = record {
    spans = g.spans;
    some = g.some;
    each = g.each;
    whole = λ o u s lt. g.whole o u s (omega (arith, ints));
    order = g.order;
    before = λ c i. let b = g.before c i in record { later = (let l = b.later in omega (arith, ints)); other = λ e same. b.other (omega (arith, ints)) (same ∙ n) };
    span = (let a = g.span in omega (arith, ints));
    here = λ u w.
        let begun = w.begun in
        let going = w.going in
        by_lt_z last.span.to u
        (λ lt. subst (λ (m : ℕ). HasSize (λ o. S o u) m) (number ∙ sym n) (here u (record { begun = omega (arith, ints); going = omega (arith, ints) })))
        (λ le. subst (λ (m : ℕ). HasSize (λ o. S o u) m) (sym n) (g.here u (record { begun = omega (arith, ints); going = le })));
  }

  -- the last stretch is done
  record Done (rows : List CountRow) (last : CountRow) : Type 0 where
    spans : (c : CountRow) → Among rows c → IsSpan c.span
    some : (c : CountRow) → Among rows c → 0 < c.number
    each : (c : CountRow) (t : ℤ) → Among rows c → Within t c.span → HasSize (λ o. S o t) c.number
    whole : (o : ℕ) (t : ℤ) → S o t → t ≤ℤ last.span.to → SomeCount rows t
    order : Ordered CountBefore rows
    before : (c : CountRow) → Among rows c → (c.span.to ≤ℤ last.span.to) × ((c.span.to ≡ last.span.to) → c.number ≡ last.number)

  done : (rows : List CountRow) (last : CountRow) (now : List CountRow) → SoFar S rows last → WithSome last rows now → Done now last
  done rows last now g (inl (lt, e)) = subst (λ (v : List CountRow). Done v last) (sym e) (record {
    spans = λ c i. ⊎_elim (λ a. g.spans c a) (λ a. ⊎_elim (λ (h : last ≡ c). subst (λ (v : CountRow). IsSpan v.span) h g.span) (λ k. absurd k) a) (among_append rows (last ∷ []) c i);
    some = λ c i. ⊎_elim (λ a. g.some c a) (λ a. ⊎_elim (λ (h : last ≡ c). subst (λ (v : CountRow). 0 < v.number) h lt) (λ k. absurd k) a) (among_append rows (last ∷ []) c i);
    each = λ c t i. ⊎_elim (λ a. g.each c t a) (λ a. ⊎_elim (λ (h : last ≡ c). subst (λ (v : CountRow). Within t v.span → HasSize (λ o. S o t) v.number) h (g.here t)) (λ k. absurd k) a) (among_append rows (last ∷ []) c i);
    whole = λ o t s le. by_lt_z t last.span.from
        (λ before. let w = g.whole o t s before in (w.0, append_first rows (last ∷ []) w.0 w.1, w.2))
        (λ from. (last, append_second rows (last ∷ []) last (inl refl), record { begun = from; going = le }));
    order = append_ordered CountBefore rows (last ∷ []) g.order (λ c i. absurd i, tt) (λ c d i j. ⊎_elim (λ (h : last ≡ d). subst (λ (v : CountRow). CountBefore c v) h (g.before c i)) (λ k. absurd k) j);
    before = λ c i. ⊎_elim
        (λ a. let b = g.before c a in let l = b.later in let span = g.span in (omega (arith, ints), λ k. absurd (omega (arith, ints))))
        (λ a. ⊎_elim (λ (h : last ≡ c). subst (λ (v : CountRow). (v.span.to ≤ℤ last.span.to) × ((v.span.to ≡ last.span.to) → v.number ≡ last.number)) h (omega (arith, ints), λ k. refl)) (λ k. absurd k) a)
        (among_append rows (last ∷ []) c i);
  })
  done rows last now g (inr (zero, e)) = subst (λ (v : List CountRow). Done v last) (sym e) (record {
    spans = g.spans;
    some = g.some;
    each = g.each;
    whole = λ o t s le. by_lt_z t last.span.from
        (λ before. g.whole o t s before)
        (λ from. absurd (none_of (λ p. S p t) o (subst (λ (m : ℕ). HasSize (λ p. S p t) m) zero (g.here t (record { begun = from; going = le }))) s));
    order = g.order;
    before = λ c i. let b = g.before c i in let l = b.later in let span = g.span in (omega (arith, ints), λ k. absurd (omega (arith, ints)));
  })

  -- a stretch with another number comes behind it
  pub other_on : (rows : List CountRow) (last next : CountRow) (now : List CountRow) → SoFar S rows last → WithSome last rows now → IsSpan next.span → next.span.from ≡ last.span.to +ℤ pos 1 → (next.number ≡ last.number → ⊥)
      → ((t : ℤ) → Within t next.span → HasSize (λ o. S o t) next.number) → SoFar S now next
  other_on rows last next now g pushed span from other here =
      let d = done rows last now g pushed in record {
        spans = d.spans;
        some = d.some;
        each = d.each;
        whole = λ o t s lt. d.whole o t s (omega (arith, ints));
        order = d.order;
        before = λ c i. let b = d.before c i in let le = b.0 in record { later = omega (arith, ints); other = λ e same. other (sym same ∙ b.1 (omega (arith, ints))) };
        span = span;
        here = here;
      }

  pub counted : (rows : List CountRow) (last : CountRow) (now : List CountRow) → SoFar S rows last → WithSome last rows now → ((o : ℕ) (t : ℤ) → S o t → t ≤ℤ last.span.to) → AreCounts S now
  counted rows last now g pushed final =
      let d = done rows last now g pushed in
      record { spans = d.spans; some = d.some; each = d.each; whole = λ o t s. d.whole o t s (final o t s); order = d.order }

-- ---- what a stretch says

module _ (times : List OneRow) (one : IsOneTime times) (at : ℤ) (waiting ending : List OneRow) (w : LeftOf times (waits at) waiting) (e : LeftOf times (ends at) ending) (stop : OneRow) (next : CountRow) (s : IsStretch at waiting ending stop next)
    (first : (r : OneRow) → Among ending r → stop.span.to ≤ℤ r.span.to) where
  size : HasSize (λ o. TimesHold times o at) next.number
  size = size_at at times one next.number (let p = left_number times (waits at) waiting w in let q = left_number times (ends at) ending e in let r = s.number in omega arith)

  pub stretch_here : (t : ℤ) → Within t next.span → HasSize (λ o. TimesHold times o t) next.number
  stretch_here t v = size_like (λ o. TimesHold times o at) (λ o. TimesHold times o t) next.number
      (λ o h.
      let i = h.2 in
      let m = i.moment in
      let begun = m.begun in
      let going = m.going in
      let from = s.from in
      let stops = (s.end).stops in
      let a = v.begun in
      let b = v.going in
      let f = first h.0 (e.whole h.0 h.1 (le_true at h.0.span.to going)) in
      (h.0, h.1, record { object = i.object; moment = record { begun = omega (arith, ints); going = omega (arith, ints) } }))
      (λ o h.
      let i = h.2 in
      let m = i.moment in
      let begun = m.begun in
      let going = m.going in
      let from = s.from in
      let a = v.begun in
      let b = v.going in
      let begins : h.0.span.from ≤ℤ at = by_lt_z at h.0.span.from (λ lt. absurd (let x = (s.end).waits h.0 (w.whole h.0 h.1 (lt_true at h.0.span.from lt)) in omega (arith, ints))) (λ le. le) in
      (h.0, h.1, record { object = i.object; moment = record { begun = begins; going = omega (arith, ints) } }))
      size
