-- One-time rows have a list of counts: the runs of their numbers, seen as values.
use Rattle.std.proofs.Common.{◌≡◌, ◌⊎◌, inl, inr, ⊎_elim, ℕ, zero, suc, ◌-◌, ◌<◌, ℤ, pos, ◌+ℤ◌, ◌≤ℤ◌, ◌<ℤ◌, List, [], ◌∷◌, length, refl, sym, ◌∙◌, ap, subst, arith}
use Rattle.std.specs.Int.{int_max, int_min}
use Rattle.std.specs.List.{count_by}
use Rattle.std.proofs.lemmas.Int.{ints, clamps}
use Rattle.itpg_base.specs.Spans.{Within, IsSpan}
use Rattle.itpg_base.specs.Words.{Word}
use Rattle.itpg_base.specs.Graphs.{Valued, RunsHave, RunsApart, AreRunsOfValues}
use Rattle.interval_set.specs.Runs.{AreRunsOf}
use Rattle.interval_set.proofs.ExistsValues.{SomeValue, runs_of_exist}
use Rattle.itpg_base.specs.Lists.{Among, Ordered}
use Rattle.relation_rows.specs.declared.times.OneRow.{OneRow}
use Rattle.relation_rows.specs.Times.{TimesHold, IsOneTime}
use Rattle.arrivals.specs.declared.counts.CountRow.{CountRow}
use Rattle.arrivals.specs.Counting.{HasSize, CountBefore, AreCounts}
use Rattle.arrivals.proofs.Sizes.{waits, ends, size_at, size_unique, fewer_wait}

-- the number at a moment, if it is above 0, as a value
pub record Numbers (S : ℕ → ℤ → Type 0) (t : ℤ) (value : Word) : Type 0 where
  pub count : ℕ
  pub some : 0 < count
  pub size : HasSize (λ o. S o t) count
  pub is : value ≡ count ∷ []

abbrev pub first_of : Word → ℕ
first_of [] = 0
first_of (n ∷ ns) = n

abbrev pub counts_of : List Valued → List CountRow
counts_of [] = []
counts_of (r ∷ rs) = record { span = r.span; number = first_of r.value } ∷ counts_of rs

abbrev count_of : Valued → CountRow
count_of r = record { span = r.span; number = first_of r.value }

-- the run that a count stands for
of_run : (runs : List Valued) (c : CountRow) → Among (counts_of runs) c → (r : Valued) × Among runs r × (count_of r ≡ c)
of_run [] c h = absurd h
of_run (r ∷ rs) c (inl e) = (r, inl refl, e)
of_run (r ∷ rs) c (inr h) = let w = of_run rs c h in (w.0, inr w.1, w.2)

run_of : (runs : List Valued) (r : Valued) → Among runs r → Among (counts_of runs) (count_of r)
run_of [] r h = absurd h
run_of (q ∷ qs) r (inl e) = inl (ap count_of e)
run_of (q ∷ qs) r (inr h) = inr (run_of qs r h)

run_has : (runs : List Valued) (r : Valued) (t : ℤ) → Among runs r → Within t r.span → RunsHave runs t r.value
run_has [] r t h w = absurd h
run_has (q ∷ qs) r t (inl e) w = inl (subst (λ (v : Valued). Within t v.span) (sym e) w, ap (λ (v : Valued). v.value) e)
run_has (q ∷ qs) r t (inr h) w = inr (run_has qs r t h w)

has_run : (runs : List Valued) (t : ℤ) (value : Word) → RunsHave runs t value → (r : Valued) × Among runs r × Within t r.span
has_run [] t value h = absurd h
has_run (q ∷ qs) t value (inl h) = (q, inl refl, h.0)
has_run (q ∷ qs) t value (inr h) = let w = has_run qs t value h in (w.0, inr w.1, w.2)

run_span : (runs : List Valued) (r : Valued) → AreRunsOfValues runs → Among runs r → r.span.from ≤ℤ r.span.to
run_span [] r c h = absurd h
run_span (q ∷ qs) r c (inl e) = subst (λ (v : Valued). v.span.from ≤ℤ v.span.to) e c.0
run_span (q ∷ qs) r c (inr h) = run_span qs r c.2 h

-- what follows a run comes after it, and where it touches has another value
after : (q : Valued) (rs : List Valued) (r : Valued) → RunsApart q rs → AreRunsOfValues rs → Among rs r → (q.span.to <ℤ r.span.from) × ((r.span.from ≡ q.span.to +ℤ pos 1) → q.value ≡ r.value → ⊥)
after q [] r a c h = absurd h
after q (s ∷ ss) r a c (inl e) = (
  subst (λ (v : Valued). q.span.to <ℤ v.span.from) e a.0,
  λ touch same. let far = a.1 (same ∙ sym (ap (λ (v : Valued). v.value) e)) in let f = ap (λ (v : Valued). v.span.from) e in omega (arith, ints),
)
after q (s ∷ ss) r a c (inr h) =
    let later = after s ss r c.1 c.2 h in
    let first = a.0 in
    let second = later.0 in
    let span : s.span.from ≤ℤ s.span.to = c.0 in
    (omega (arith, ints), λ touch same. omega (arith, ints))

module _ (S : ℕ → ℤ → Type 0) (runs : List Valued) (are : AreRunsOf (Numbers S) runs) where
  number : (r : Valued) (t : ℤ) → Among runs r → Within t r.span → (0 < first_of r.value) × HasSize (λ o. S o t) (first_of r.value)
  number r t i w =
      let n = are.only t r.value (run_has runs r t i w) in
      let e = n.is in
      subst (λ (v : Word). (0 < first_of v) × HasSize (λ o. S o t) (first_of v)) (sym e) (n.some, n.size)

  value_is : (r : Valued) → Among runs r → r.value ≡ first_of r.value ∷ []
  value_is r i =
      let span = run_span runs r are.coalesced i in
      let n = are.only r.span.from r.value (run_has runs r r.span.from i (record { begun = omega (arith, ints); going = span })) in
      subst (λ (v : Word). v ≡ first_of v ∷ []) (sym n.is) refl

  in_order : (rs : List Valued) → AreRunsOfValues rs → ((r : Valued) → Among rs r → r.value ≡ first_of r.value ∷ []) → Ordered CountBefore (counts_of rs)
  in_order [] c f = tt
  in_order (q ∷ qs) c f = (
    λ d h.
        let w = of_run qs d h in
        let a = after q qs w.0 c.1 c.2 w.1 in
        subst (λ (v : CountRow). CountBefore (count_of q) v) w.2 (record { later = a.0; other = λ touch same. a.1 touch (f q (inl refl) ∙ ap (λ (n : ℕ). n ∷ []) same ∙ sym (f w.0 (inr w.1))) }),
    in_order qs c.2 (λ r i. f r (inr i)),
  )

  pub counts_from : ((o : ℕ) (t : ℤ) → S o t → (value : Word) × Numbers S t value) → AreCounts S (counts_of runs)
  counts_from some = record {
    spans = λ c i. let w = of_run runs c i in subst (λ (v : CountRow). IsSpan v.span) w.2 (run_span runs w.0 are.coalesced w.1);
    some = λ c i.
        let w = of_run runs c i in
        let span = run_span runs w.0 are.coalesced w.1 in
        subst (λ (v : CountRow). 0 < v.number) w.2 (number w.0 w.0.span.from w.1 (record { begun = omega (arith, ints); going = span })).0;
    each = λ c t i. let w = of_run runs c i in subst (λ (v : CountRow). Within t v.span → HasSize (λ o. S o t) v.number) w.2 (λ k. (number w.0 t w.1 k).1);
    whole = λ o t s.
        let n = some o t s in
        let w = has_run runs t n.0 (are.whole t n.0 n.1) in
        (count_of w.0, run_of runs w.0 w.1, w.2);
    order = in_order runs are.coalesced value_is;
  }

-- moments between which all rows lie
record Bounds (times : List OneRow) : Type 0 where
  low : ℤ
  high : ℤ
  from : (r : OneRow) → Among times r → low ≤ℤ r.span.from
  to : (r : OneRow) → Among times r → r.span.to ≤ℤ high

bounds : (times : List OneRow) → Bounds times
bounds [] = record { low = pos 0; high = pos 0; from = λ r i. absurd i; to = λ r i. absurd i }
bounds (q ∷ qs) =
    let b = bounds qs in
    record {
      low = int_min q.span.from b.low;
      high = int_max q.span.to b.high;
      from = λ r i. ⊎_elim (λ (e : q ≡ r). subst (λ (v : OneRow). int_min q.span.from b.low ≤ℤ v.span.from) e (omega (arith, ints, clamps))) (λ h. let l = b.from r h in omega (arith, ints, clamps)) i;
      to = λ r i. ⊎_elim (λ (e : q ≡ r). subst (λ (v : OneRow). v.span.to ≤ℤ int_max q.span.to b.high) e (omega (arith, ints, clamps))) (λ h. let l = b.to r h in omega (arith, ints, clamps)) i;
    }

module _ (times : List OneRow) (one : IsOneTime times) where
  abbrev pub S : ℕ → ℤ → Type 0
  S = TimesHold times

  abbrev so_many : ℤ → ℕ
  so_many t = count_by (ends t) times - count_by (waits t) times

  sized : (t : ℤ) → HasSize (λ o. S o t) (so_many t)
  sized t = size_at t times one (so_many t) (let f = fewer_wait t times one in omega arith)

  any_of : (t : ℤ) (n : ℕ) → HasSize (λ o. S o t) n → 0 < n → (o : ℕ) × S o t
  any_of t n h lt = go h.members h.each h.size
    where
      go : (os : List ℕ) → ((o : ℕ) → Among os o → S o t) → length os ≡ n → (o : ℕ) × S o t
      go [] f e = absurd (omega arith)
      go (o ∷ os) f e = (o, f o (inl refl))

  zero_or : (n : ℕ) → (n ≡ 0) ⊎ (0 < n)
  zero_or zero = inl refl
  zero_or (suc n) = inr (omega arith)

  decide : (t : ℤ) → SomeValue (Numbers S t)
  decide t = elim (zero_or (so_many t)) [
    | inl none ↦ inr (λ value n. let same = size_unique (λ o. S o t) n.count (so_many t) n.size (sized t) in let lt = n.some in omega arith)
    | inr lt ↦ inl (so_many t ∷ [], record { count = so_many t; some = lt; size = sized t; is = refl })
  ]

  some_number : (o : ℕ) (t : ℤ) → S o t → (value : Word) × Numbers S t value
  some_number o t s = elim (zero_or (so_many t)) [
    | inl none ↦ absurd (empty (sized t).members ((sized t).size ∙ none) ((sized t).whole o s))
    | inr lt ↦ (so_many t ∷ [], record { count = so_many t; some = lt; size = sized t; is = refl })
  ]
    where
      empty : (os : List ℕ) → length os ≡ 0 → Among os o → ⊥
      empty [] e i = i
      empty (x ∷ xs) e i = omega arith

  pub counts_exist : (rows : List CountRow) × AreCounts (TimesHold times) rows
  counts_exist =
      let b = bounds times in
      let runs = runs_of_exist (Numbers S) b.low b.high
      (λ t value n. let a = any_of t n.count n.size n.some in let h = a.1 in let f = b.from h.0 h.1 in let m = (h.2).moment in let g = m.begun in omega (arith, ints))
      (λ t value n. let a = any_of t n.count n.size n.some in let h = a.1 in let f = b.to h.0 h.1 in let m = (h.2).moment in let g = m.going in omega (arith, ints))
      (λ t v w n m. n.is ∙ ap (λ (k : ℕ). k ∷ []) (size_unique (λ o. S o t) n.count m.count n.size m.size) ∙ sym m.is)
      decide in
      (counts_of runs.0, counts_from S runs.0 runs.1 some_number)
