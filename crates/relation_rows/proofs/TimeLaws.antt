-- Objects at moments have at most one list of one-time rows, and where they are decided and finitely many one.
use Rattle.std.proofs.Common.{◌≡◌, ◌⊎◌, inl, inr, ⊎_elim, ℕ, zero, suc, ◌<◌, ℤ, pos, ◌+ℤ◌, ◌-ℤ◌, ◌≤ℤ◌, ◌<ℤ◌, Bool, List, [], ◌∷◌, ◌++◌, refl, sym, ◌∙◌, ap, subst, arith}
use Rattle.std.proofs.lemmas.Int.{ints, by_lt_z}
use Rattle.std.proofs.lemmas.Bool.Decides.{eqb_tells}
use Rattle.std.specs.Prelude.{IsTrue}
use Rattle.itpg_base.specs.Spans.{Span, Within, Covers, IsSpan, IsCoalesced}
use Rattle.itpg_base.proofs.Searches.{is_true}
use Rattle.interval_set.specs.Runs.{AreRuns}
use Rattle.interval_set.proofs.Coalesced.{covered_late}
use Rattle.interval_set.proofs.Exists.{runs_exist}
use Rattle.zone_core.specs.Zone.{Between}
use Rattle.itpg_base.specs.Lists.{Among, Ordered}
use Rattle.itpg_base.proofs.Lists.{among_append, append_first, append_second, append_ordered, ordered_either, ordered_unique}
use Rattle.relation_rows.specs.declared.times.OneRow.{OneRow}
use Rattle.relation_rows.specs.Times.{TimesHold, TimeBefore, AreTimes}

-- by object and first moment, which is an order of whatever rows
abbrev Starts : OneRow → OneRow → Type 0
Starts r s = (r.object.0 < s.object.0) ⊎ ((r.object.0 ≡ s.object.0) × (r.span.from <ℤ s.span.from))

starts_apart : (r s : OneRow) → Starts r s → Starts s r → ⊥
starts_apart r s (inl a) (inl b) = omega arith
starts_apart r s (inl a) (inr (e, b)) = omega arith
starts_apart r s (inr (e, a)) (inl b) = omega arith
starts_apart r s (inr (e, a)) (inr (f, b)) = omega (arith, ints)

starts_of : (r s : OneRow) → IsSpan r.span → TimeBefore r s → Starts r s
starts_of r s span (inl l) = inl l
starts_of r s span (inr (e, l)) = inr (e, omega (arith, ints))

starting : (rows : List OneRow) → ((r : OneRow) → Among rows r → IsSpan r.span) → Ordered TimeBefore rows → Ordered Starts rows
starting [] spans o = tt
starting (r ∷ rows) spans o = (λ s a. starts_of r s (spans r (inl refl)) (o.0 s a), starting rows (λ s a. spans s (inr a)) o.1)

-- no row has the moment before a row's first, nor that after its last
pub not_touched : (rows : List OneRow) → ((r : OneRow) → Among rows r → IsSpan r.span) → Ordered TimeBefore rows → (r : OneRow) → Among rows r → (t : ℤ)
    → (t ≡ r.span.from -ℤ pos 1) ⊎ (t ≡ r.span.to +ℤ pos 1) → TimesHold rows r.object.0 t → ⊥
not_touched rows spans o r a t at h =
    let s = h.0 in
    let i = h.2 in
    let w = i.moment in
    let begun = w.begun in
    let going = w.going in
    let span = spans r a in
    ⊎_elim
    (λ (e : r ≡ h.0).
    let first : (h.0).span.from ≡ r.span.from = ap (λ (v : OneRow). v.span.from) (sym e) in
    let last : (h.0).span.to ≡ r.span.to = ap (λ (v : OneRow). v.span.to) (sym e) in
    ⊎_elim (λ b. omega (arith, ints)) (λ b. omega (arith, ints)) at)
    (λ k. ⊎_elim
    (λ (b : TimeBefore r h.0). ⊎_elim
    (λ l. absurd (let same = i.object in omega arith))
    (λ l. let apart = l.1 in ⊎_elim (λ c. omega (arith, ints)) (λ c. omega (arith, ints)) at)
    b)
    (λ (b : TimeBefore h.0 r). ⊎_elim
    (λ l. absurd (let same = i.object in omega arith))
    (λ l. let apart = l.1 in ⊎_elim (λ c. omega (arith, ints)) (λ c. omega (arith, ints)) at)
    b)
    k)
    (ordered_either TimeBefore rows o r h.0 a h.1)

same_row : {o p : ℕ} {a b c d : ℤ} → o ≡ p → a ≡ b → c ≡ d
    → let r : OneRow = record { object = record { 0 = o }; span = record { from = a; to = c } } in r ≡ record { object = record { 0 = p }; span = record { from = b; to = d } }
same_row e f g = cc

-- each row of one list is in the other
carried : (S : ℕ → ℤ → Type 0) (xs ys : List OneRow) → AreTimes S xs → AreTimes S ys → (r : OneRow) → Among xs r → Among ys r
carried S xs ys nx ny r a =
    let o = r.object.0 in
    let span = nx.spans r a in
    let own = λ (t : ℤ) (b : r.span.from ≤ℤ t) (c : t ≤ℤ r.span.to). nx.only r.object.0 t (r, a, record { object = refl; moment = record { begun = b; going = c } }) in
    let h = ny.whole r.object.0 r.span.from (own r.span.from (omega (arith, ints)) (nx.spans r a)) in
    let i = h.2 in
    let w = i.moment in
    let begun = w.begun in
    let going = w.going in
    let other = λ (t : ℤ) (b : (h.0).span.from ≤ℤ t) (c : t ≤ℤ (h.0).span.to). nx.whole r.object.0 t (ny.only r.object.0 t (h.0, h.1, record { object = i.object; moment = record { begun = b; going = c } })) in
    let first : (h.0).span.from ≡ r.span.from = by_lt_z (h.0).span.from r.span.from
    (λ lt. absurd (not_touched xs nx.spans nx.order r a (r.span.from -ℤ pos 1) (inl refl) (other (r.span.from -ℤ pos 1) (omega (arith, ints)) (omega (arith, ints)))))
    (λ le. omega (arith, ints)) in
    let last : (h.0).span.to ≡ r.span.to = by_lt_z (h.0).span.to r.span.to
    (λ lt. absurd (not_touched ys ny.spans ny.order h.0 h.1 ((h.0).span.to +ℤ pos 1) (inr refl)
    (subst (λ (v : ℕ). TimesHold ys v ((h.0).span.to +ℤ pos 1)) (sym i.object) (ny.whole r.object.0 ((h.0).span.to +ℤ pos 1) (own ((h.0).span.to +ℤ pos 1) (omega (arith, ints)) (omega (arith, ints)))))))
    (λ le. by_lt_z r.span.to (h.0).span.to
    (λ lt. absurd (not_touched xs nx.spans nx.order r a (r.span.to +ℤ pos 1) (inr refl) (other (r.span.to +ℤ pos 1) (omega (arith, ints)) (omega (arith, ints)))))
    (λ ge. omega (arith, ints))) in
    subst (λ (v : OneRow). Among ys v) (same_row i.object first last) h.1

pub times_unique : (S : ℕ → ℤ → Type 0) (xs ys : List OneRow) → AreTimes S xs → AreTimes S ys → xs ≡ ys
times_unique S xs ys nx ny = ordered_unique Starts starts_apart xs ys (starting xs nx.spans nx.order) (starting ys ny.spans ny.order) (carried S xs ys nx ny) (carried S ys xs ny nx)

-- ---- existence

abbrev pub rows_of : ℕ → List Span → List OneRow
rows_of o [] = []
rows_of o (s ∷ ss) = record { object = record { 0 = o }; span = s } ∷ rows_of o ss

pub of_rows : (o : ℕ) (spans : List Span) (r : OneRow) → Among (rows_of o spans) r → (r.object.0 ≡ o) × Among spans r.span
of_rows o [] r a = absurd a
of_rows o (s ∷ ss) r (inl e) = (sym (ap (λ (v : OneRow). v.object.0) e), inl (ap (λ (v : OneRow). v.span) e))
of_rows o (s ∷ ss) r (inr a) = let w = of_rows o ss r a in (w.0, inr w.1)

pub covers_among : (spans : List Span) (s : Span) (t : ℤ) → Among spans s → Within t s → Covers spans t
covers_among [] s t a w = a
covers_among (x ∷ xs) s t (inl e) w = inl (subst (λ (v : Span). Within t v) (sym e) w)
covers_among (x ∷ xs) s t (inr a) w = inr (covers_among xs s t a w)

pub covers_rows : (o : ℕ) (spans : List Span) (t : ℤ) → Covers spans t → TimesHold (rows_of o spans) o t
covers_rows o [] t c = absurd c
covers_rows o (s ∷ ss) t (inl w) = (record { object = record { 0 = o }; span = s }, inl refl, record { object = refl; moment = w })
covers_rows o (s ∷ ss) t (inr c) = let h = covers_rows o ss t c in (h.0, inr h.1, h.2)

pub spans_of : (spans : List Span) → IsCoalesced spans → (s : Span) → Among spans s → IsSpan s
spans_of [] c s a = absurd a
spans_of (x ∷ xs) c s (inl e) = subst IsSpan e c.0
spans_of (x ∷ xs) c s (inr a) = spans_of xs c.2 s a

pub rows_ordered : (o : ℕ) (spans : List Span) → IsCoalesced spans → Ordered TimeBefore (rows_of o spans)
rows_ordered o [] c = tt
rows_ordered o (s ∷ ss) c = (
  λ r a.
      let w = of_rows o ss r a in
      let span = spans_of ss c.2 r.span w.1 in
      inr (sym w.0, covered_late s.to ss r.span.from c.2 c.1 (covers_among ss r.span r.span.from w.1 (record { begun = omega (arith, ints); going = span }))),
  rows_ordered o ss c.2,
)

module _ (S : ℕ → ℤ → Type 0) (each : (o : ℕ) → (spans : List Span) × AreRuns (S o) spans) where
  -- the rows of the objects below k
  below : (k : ℕ) → (rows : List OneRow) × AreTimes (λ o t. (o < k) × S o t) rows
  below zero = ([], record { whole = λ o t h. absurd (let l = h.0 in omega arith); only = λ o t h. absurd h.1; spans = λ r a. absurd a; order = tt })
  below (suc k) =
      let old = below k in
      let new = each k in
      let before = old.1 in
      let runs = new.1 in
      let added : List OneRow = rows_of k new.0 in (
        old.0 ++ rows_of k new.0,
        record {
          whole = λ o t h. let l = h.0 in elim (eqb_tells o k) [
            | inl e ↦ (let w = covers_rows k new.0 t (runs.whole t (subst (λ (v : ℕ). S v t) e.1 h.1)) in
                let i = w.2 in
                (w.0, append_second old.0 (rows_of k new.0) w.0 w.1, record { object = i.object ∙ sym e.1; moment = i.moment }))
            | inr n ↦ (let w = before.whole o t ((let ne = n.1 in omega arith), h.1) in (w.0, append_first old.0 (rows_of k new.0) w.0 w.1, w.2))
          ];
          only = λ o t h. ⊎_elim
              (λ a. let w = before.only o t (h.0, a, h.2) in ((let l = w.0 in omega arith), w.1))
              (λ a.
              let w = of_rows k new.0 h.0 a in
              let i = h.2 in
              let e : k ≡ o = sym w.0 ∙ i.object in
              ((let f = e in omega arith), subst (λ (v : ℕ). S v t) e (runs.only t (covers_among new.0 (h.0).span t w.1 i.moment))))
              (among_append old.0 (rows_of k new.0) h.0 h.1);
          spans = λ r a. ⊎_elim (λ b. before.spans r b) (λ b. spans_of new.0 runs.coalesced r.span (of_rows k new.0 r b).1) (among_append old.0 (rows_of k new.0) r a);
          order = append_ordered TimeBefore old.0 (rows_of k new.0) before.order (rows_ordered k new.0 runs.coalesced)
              (λ r s a b. inl (earlier old.0 before r s a (of_rows k new.0 s b).0));
        },
      )
    where
      earlier : (rows : List OneRow) → AreTimes (λ o t. (o < k) × S o t) rows → (r s : OneRow) → Among rows r → s.object.0 ≡ k → r.object.0 < s.object.0
      earlier rows n r s a e =
          let span = n.spans r a in
          let w = n.only r.object.0 r.span.from (r, a, record { object = refl; moment = record { begun = omega (arith, ints); going = span } }) in
          let l = w.0 in
          omega arith

  pub times_exist : (objects : ℕ) → ((o : ℕ) (t : ℤ) → S o t → o < objects) → (rows : List OneRow) × AreTimes S rows
  times_exist objects few =
      let w = below objects in
      let n = w.1 in
      (w.0, record { whole = λ o t h. n.whole o t (few o t h, h); only = λ o t h. (n.only o t h).1; spans = n.spans; order = n.order })

pub test_times : (objects : ℕ) (low high : ℤ) (test : ℕ → ℤ → Bool) → ((o : ℕ) (t : ℤ) → IsTrue (test o t) → (o < objects) × Between low high t) → (rows : List OneRow) × AreTimes (λ o t. IsTrue (test o t)) rows
test_times objects low high test finite =
    times_exist (λ o t. IsTrue (test o t))
    (λ o. runs_exist (λ t. IsTrue (test o t)) low high (λ t h. (finite o t h).1.above) (λ t h. (finite o t h).1.below) (λ t. is_true (test o t)))
    objects (λ o t h. (finite o t h).0)
